-- A cell that is filled: which pieces were put, and what is acknowledged at rest.
use Rattle.std.proofs.Common.{◌≡◌, ◌⊎◌, inl, inr, ℕ, ◌+◌, ◌<◌, ◌≤◌, Bool, true, false, cond, List, [], ◌∷◌, ◌++◌, length, take, Option, Some, None, Result, Ok, refl, sym, ap, ◌∙◌, subst, arith}
use Rattle.std.specs.Prelude.{is_some}
use Rattle.std.proofs.lemmas.List.{take-append-le}
use Rattle.std.proofs.Math.Seq.{take-length}
use Rattle.inc_pending.specs.Keyed.{lookup}
use Rattle.inc_disk.specs.Disk.{DiskState, Now}
use Rattle.inc_disk.specs.Laws.{EachImage, LeavesOnly}
use Rattle.inc_entry.specs.Entry.{Places, area_places, entries}
use Rattle.inc_entry.specs.Keeps.{KeepsEntry, Kind}
use Rattle.inc_entry.specs.Stored.{digest_of, stored_digest}
use Rattle.inc_entry.specs.declared.classes.Class.{Class}
use Rattle.inc_frame.specs.declared.piece.Piece.{Piece}
use Rattle.inc_layout.specs.Backing.{fixed_in}
use Rattle.inc_layout.specs.fixed.Fixed.{Fixed, fixed_of}
use Rattle.inc_layout.specs.state.Preserves.{Preserves}
use Rattle.inc_layout.specs.state.State.{kind_in, kind_with, unfilled_kind}
use Rattle.inc_layout.specs.declared.opened.Opened.{Opened}
use Rattle.inc_layout.proofs.fixed_part.FixedMeaning.{stands_fixed}
use Rattle.inc_model.specs.relation.Facts.{FileFacts}
use Rattle.inc_model.specs.relation.State.{has, is_in}
use Rattle.inc_model.specs.relation.Step.{IsLegal}
use Rattle.inc_model.specs.declared.words.event.Event.{Event}
use Rattle.inc_model.specs.declared.words.event.Window.{Window}
use Rattle.inc_model.specs.declared.words.file_state.FileState.{FileState}
use Rattle.inc_model.specs.declared.words.reply.Entry.{Entry}
use Rattle.inc_cell.specs.laws.Runs.{KeepsFront}
use Rattle.inc_cell.specs.seen.Parts.{parts_of}
use Rattle.inc_cell.specs.seen.Seen.{Seen, state_now, tells as disk_tells}
use Rattle.inc_cell.specs.seen.Standing.{ReadsAs}
use Rattle.inc_cell.proofs.standing.KindLemmas.{kind_is}
use Rattle.inc_recover.proofs.Reopened.{all_entries}
use Rattle.inc_filling.specs.Filled.{AreIn, FrontAreIn, StopsBy}
use Rattle.inc_filling.specs.Grouped.{puts_among}
use Rattle.inc_filling.specs.Pieces.{piece_puts}
use Rattle.inc_filling.specs.Refusals.{taken_pieces}
use Rattle.inc_filling.specs.Stands.{HasTaken, RunsFrom, events_of}
use Rattle.inc_filling.specs.declared.stop.FillStop.{FillStop}
use Rattle.inc_filling.specs.declared.stop.FillStop.TheVariants as halt
use Rattle.inc_cmd.specs.Commands.FillMoments.{KeepsAllOpen, PutsPieces}

-- ---- what is open in the bytes is acknowledged

one_fixed : {E : Type 0} (a b : Fixed) (found : Result Fixed E) → found ≡ Ok a → found ≡ Ok b → a ≡ b
one_fixed a b found first second = cc

same_places : (opened : Opened) (s : FileState) (bytes : List ℕ) (reads : ReadsAs opened s bytes) → area_places reads.keeps.opened.areas ≡ area_places opened.areas
same_places opened s bytes reads =
    let one : fixed_in reads.keeps.opened ≡ reads.fixed.found = one_fixed (fixed_in reads.keeps.opened) reads.fixed.found (fixed_of bytes) (stands_fixed bytes (fixed_in reads.keeps.opened) reads.keeps.stands.laid.fixed) (stands_fixed bytes reads.fixed.found reads.fixed.stands) in
    ap (λ (f : Fixed). f.places) one ∙ reads.fixed.same.places

not_open : (places : Places) (bytes : List ℕ) (i : ℕ) (damaged compressed : Bool) → KeepsEntry places bytes i (unfilled_kind damaged compressed) → is_some (stored_digest places bytes i) ≡ false
not_open places bytes i true compressed keeps = ap (λ (class : Class). is_some (digest_of places bytes i class)) keeps
not_open places bytes i false true keeps = ap (λ (class : Class). is_some (digest_of places bytes i class)) keeps
not_open places bytes i false false keeps = ap (λ (class : Class). is_some (digest_of places bytes i class)) keeps

pub open_acknowledged : (opened : Opened) (first s : FileState) (bytes : List ℕ) → ReadsAs opened s bytes → FileFacts first s → s.failed ≡ None → ((i : ℕ) → is_in i s.map ≡ true → has i s.acknowledged ≡ true)
    → (i : ℕ) → i < entries (area_places opened.areas) → is_some (stored_digest (area_places opened.areas) bytes i) ≡ true → has i s.acknowledged ≡ true
open_acknowledged opened first s bytes reads facts sound rest i here is = by_acknowledged (has i s.acknowledged) refl
  where
    same : area_places reads.keeps.opened.areas ≡ area_places opened.areas
    same = same_places opened s bytes reads

    within : i < s.n + s.m
    within = (let all : entries (area_places reads.keeps.opened.areas) ≡ s.n + s.m = all_entries reads.keeps.opened (parts_of s) reads.keeps.state in
        let own : i < entries (area_places reads.keeps.opened.areas) = subst (λ (p : Places). i < entries p) (sym same) here in omega arith)

    unfilled : has i s.acknowledged ≡ false → lookup i s.begun ≡ None → kind_in (parts_of s) i ≡ unfilled_kind (has i s.damaged) (has i s.compressed)
    unfilled unheld begun = kind_is s i ∙ (λ k. kind_with (cond (unheld k) (lookup i s.map) None) (begun k) (unfilled_kind (has i s.damaged) (has i s.compressed)))

    shut : has i s.acknowledged ≡ false → lookup i s.begun ≡ None → ⊥
    shut unheld begun =
        let kept : KeepsEntry (area_places opened.areas) bytes i (unfilled_kind (has i s.damaged) (has i s.compressed)) =
        subst (λ (p : Places). KeepsEntry p bytes i (unfilled_kind (has i s.damaged) (has i s.compressed))) same
        (subst (λ (k : Kind). KeepsEntry (area_places reads.keeps.opened.areas) bytes i k) (unfilled unheld begun) (reads.keeps.each i within)) in
        let none : is_some (stored_digest (area_places opened.areas) bytes i) ≡ false = not_open (area_places opened.areas) bytes i (has i s.damaged) (has i s.compressed) kept in
        let both : true ≡ false = sym is ∙ none in
        absurd (cc)

    begun_or : (found : Option (List ℕ)) → lookup i s.begun ≡ found → has i s.acknowledged ≡ false → has i s.acknowledged ≡ true
    begun_or None begun unheld = absurd (shut unheld begun)
    begun_or (Some digest) begun unheld = elim (facts.opened.begun_open i (ap (λ (f : Option (List ℕ)). is_some f) begun)) [
      | inl inside ↦ rest i inside
      | inr failed ↦ absurd (let none : true ≡ false = sym failed ∙ ap (λ (f : Option ℕ). is_some f) sound in cc)
    ]

    by_acknowledged : (b : Bool) → has i s.acknowledged ≡ b → has i s.acknowledged ≡ true
    by_acknowledged true e = e
    by_acknowledged false e = begun_or (lookup i s.begun) refl e

-- ---- what the cell gives back

pub record GivenBack (new : Seen) (states : List DiskState) : Type 0 where
  pub states_are : states ≡ new.states
  pub legal : IsLegal 0 (disk_tells new.states) new.opening new.history
  pub reads : Now new.states (λ disk. ReadsAs new.opened (state_now new) disk.reads)
  pub images : Now new.states (λ disk. EachImage disk (λ image. Preserves image (parts_of (state_now new))))

-- the first so many of these pieces were put
pub record PutSome (old new : Seen) (pieces : List Piece) : Type 0 where
  pub count : ℕ
  pub within : count ≤ length pieces
  pub events : List Event
  pub taken : HasTaken old events new
  pub puts_are : puts_among events ≡ piece_puts old.opened (take count pieces)

pub all_put : (old new : Seen) (window : Window) (pieces : List Piece) (written present : ℕ) → AreIn old window pieces written present new → PutSome old new pieces
all_put old new window pieces written present are = record {
  count = length pieces;
  within = omega arith;
  events = are.events;
  taken = are.taken;
  puts_are = are.puts_are ∙ ap (piece_puts old.opened) (sym (take-length pieces));
}

pub front_put : (old new : Seen) (window : Window) (pieces : List Piece) (count : ℕ) → FrontAreIn old window pieces count new → PutSome old new pieces
front_put old new window pieces count front = record { count = count; within = front.within; events = front.are_in.events; taken = front.are_in.taken; puts_are = front.are_in.puts_are }

pub stop_put : (old new : Seen) (window : Window) (pieces : List Piece) (why : FillStop) → (state_now old).failed ≡ None → StopsBy old window pieces why new → PutSome old new pieces
stop_put old new window pieces halt.DiskFault sound s = record { count = s.front; within = s.within; events = s.events; taken = s.taken; puts_are = s.puts_are }
stop_put old new window pieces (halt.Failed at) sound s = absurd (let both : Some at ≡ None = sym s.failed ∙ sound in cc)
stop_put old new window pieces (halt.HistoryFull entries claimed) sound s = front_put old new window pieces s.count s.front
stop_put old new window pieces halt.OutOfMemory sound s = front_put old new window pieces s.0 s.1

-- ---- the puts of its history

-- those that were put are the first of all that are taken
pub puts_begin : (old new : Seen) (all front later : List Piece) → old.history ≡ [] → taken_pieces old.opened all ≡ front ++ later → PutSome old new front → PutsPieces old.opened new.history all
puts_begin old new all front later fresh whole put = record {
  count = put.count;
  puts_are = ap puts_among (put.taken.taken ∙ ap (λ (entries : List Entry). events_of entries ++ put.events) fresh) ∙ put.puts_are
      ∙ ap (piece_puts old.opened) (sym (ap (take put.count) whole ∙ take-append-le put.count front later put.within));
}

pub runs_told : (old new : Seen) → old.history ≡ [] → RunsFrom old new → (new.states ≡ old.states) ⊎ LeavesOnly old.states new.states (KeepsFront old.opening 0 new.history)
runs_told old new fresh (inl same) = inl (ap (λ (seen : Seen). seen.states) same)
runs_told old new fresh (inr runs) = inr (subst (λ (n : ℕ). LeavesOnly old.states new.states (KeepsFront old.opening n new.history)) (ap length fresh) runs.images)

-- ---- at rest

sound_in : (old new : Seen) (window : Window) (pieces : List Piece) (written present : ℕ) → (state_now old).failed ≡ None → AreIn old window pieces written present new → (state_now new).failed ≡ None
sound_in old new window pieces written present sound are = elim are.sound [
  | inl none ↦ ap (λ (seen : Seen). (state_now seen).failed) none.1 ∙ sound
  | inr whole ↦ whole
]

pub settled_in : (old new : Seen) (window : Window) (pieces : List Piece) (written present : ℕ) (states : List DiskState) → (state_now old).failed ≡ None → AreIn old window pieces written present new
    → Now states (λ disk. ReadsAs new.opened (state_now new) disk.reads) → Now states (λ disk. EachImage disk (λ image. Preserves image (parts_of (state_now new))))
    → Now states (KeepsAllOpen old.opened old.opening new.history)
settled_in old new window pieces written present [] sound are reads images = tt
settled_in old new window pieces written present (disk ∷ past) sound are reads images =
    let own : KeepsAllOpen new.opened new.opening new.history disk = record {
      keeps = images;
      acknowledged = open_acknowledged new.opened new.opening (state_now new) disk.reads reads are.rest.idle.facts (sound_in old new window pieces written present sound are) are.rest.idle.acknowledged;
    } in
    subst (λ (s : FileState). KeepsAllOpen old.opened s new.history disk) are.taken.opening (subst (λ (o : Opened). KeepsAllOpen o new.opening new.history disk) are.taken.opened own)
