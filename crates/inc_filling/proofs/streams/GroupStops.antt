-- A group stops, after the pieces before it are in.
use Rattle.std.proofs.Common.{◌≡◌, ℕ, ◌+◌, ◌*◌, ◌<◌, ◌≤◌, ◌⊎◌, inl, inr, List, [], ◌∷◌, ◌++◌, length, take, Some, None, refl, sym, ap, subst, ◌∙◌, arith, length-append, append_assoc}
use Rattle.std.specs.Prelude.{Err}
use Rattle.std.proofs.lemmas.List.{map-append, length-map}
use Rattle.std.proofs.Math.Seq.{take-append-add, take-append_seam}
use Rattle.std.proofs.lemmas.List.Elements.{filter_map-append}
use Rattle.inc_io.specs.Causes.{Rose}
use Rattle.inc_frame.specs.declared.piece.Piece.{Piece}
use Rattle.inc_layout.specs.declared.opened.Opened.{Opened}
use Rattle.inc_model.specs.relation.State.{Claims, all_places}
use Rattle.inc_model.specs.declared.words.event.Event.{Event}
use Rattle.inc_model.specs.declared.words.event.Event.TheVariants.{Claim, Release}
use Rattle.inc_model.specs.declared.words.event.Window.{Window}
use Rattle.inc_model.specs.declared.words.limits.TheConstants.{MOST_ENTRIES}
use Rattle.inc_model.specs.declared.words.reply.Entry.{Entry}
use Rattle.inc_cell.specs.events.Answers.{IsFullCell}
use Rattle.inc_cell.specs.seen.Seen.{Seen, state_now}
use Rattle.inc_filling.specs.Contents.{index_of_piece}
use Rattle.inc_filling.specs.Filled.{AreIn, FrontAreIn, HadFailed, IsFullFill, StopsAfter, StopsBy}
use Rattle.inc_filling.specs.Grouped.{put_in, puts_among}
use Rattle.inc_filling.specs.Pieces.{FillsPieces, FrontIsIn, digest_of_piece, piece_places, piece_puts}
use Rattle.inc_filling.specs.Stands.{HasTaken, events_of}
use Rattle.inc_filling.specs.declared.stop.FillStop.{FillStop}
use Rattle.inc_filling.specs.declared.stop.FillStop.TheVariants.{DiskFault, Failed, HistoryFull, OutOfMemory}
use Rattle.inc_filling.proofs.streams.GroupIn.{takes_both}

module _ (start mid new : Seen) (window : Window) (gave group : List Piece) (written present : ℕ) (h : AreIn start window gave written present mid) where
  front_in : new ≡ mid → FrontAreIn start window (gave ++ group) (length gave) new
  front_in same = record {
    within = omega (arith, length-append gave group);
    written = written;
    present = present;
    are_in = subst (λ (pieces : List Piece). AreIn start window pieces written present new) (sym (take-append_seam gave group)) (subst (λ (s : Seen). AreIn start window gave written present s) (sym same) h);
  }

  disk_stops : FrontIsIn mid window group new → StopsAfter start window (gave ++ group) new
  disk_stops k = record {
    front = length gave + k.front;
    within = let within = k.within in omega (arith, length-append gave group);
    events = h.events ++ k.events;
    taken = takes_both start mid new h.events k.events h.taken k.taken;
    puts_are = filter_map-append put_in h.events k.events ∙ ap (λ (l : List (ℕ × List ℕ)). l ++ puts_among k.events) h.puts_are
        ∙ ap (λ (l : List (ℕ × List ℕ)). piece_puts start.opened gave ++ l) (k.puts_are ∙ ap (λ (o : Opened). piece_puts o (take k.front group)) h.taken.opened)
        ∙ sym (map-append (λ (p : Piece). (index_of_piece start.opened p, digest_of_piece start.opened p)) gave (take k.front group))
        ∙ ap (piece_puts start.opened) (sym (take-append-add gave group k.front));
    released = (h.events ++ k.released.0, ap (λ (l : List Event). h.events ++ l) k.released.1 ∙ sym (append_assoc h.events k.released.0 (Release window ∷ [])));
    rose = subst (λ (n : ℕ). Rose n new.count) h.count k.rose;
  }

  had_failed : (at : ℕ) → 0 < length group → length group ≤ 64 → (state_now mid).failed ≡ Some at → HasTaken mid (Claim window (piece_places group) ∷ []) new → new.count ≡ mid.count → HadFailed start window (gave ++ group) at new
  had_failed at some most failed taken count = step h.sound
    where
      step : ((gave ≡ []) × (mid ≡ start)) ⊎ ((state_now mid).failed ≡ None) → HadFailed start window (gave ++ group) at new
      step (inr sound) = absurd (cc)
      step (inl none) = record {
        failed = subst (λ (s : Seen). (state_now s).failed ≡ Some at) none.1 failed;
        group = length group;
        some = omega arith;
        most = most;
        within = omega (arith, length-append gave group);
        taken = subst (λ (s : Seen). HasTaken s (Claim window (5 * length group + 1) ∷ []) new) none.1 taken;
        count = count ∙ h.count;
      }

  entries_before : length mid.history ≡ length start.history + length h.events
  entries_before =
      sym (length-map mid.history (λ (entry : Entry). entry.event)) ∙ ap length h.taken.taken ∙ length-append (events_of start.history) h.events ∙ ap (λ (n : ℕ). n + length h.events) (length-map start.history (λ (entry : Entry). entry.event))

  full_many : (places : Claims) → (state_now mid).claimed ≡ places → places ≡ [] → length group ≤ 64 → (length mid.history + all_places (state_now mid).claimed + (1 + (5 * length group + 1)) ≤ MOST_ENTRIES → ⊥) → MOST_ENTRIES < length start.history + 7 * length gave + 322
  full_many places claimed none most no_room =
      let few = h.few in
      let before = entries_before in
      let zero_places : all_places (state_now mid).claimed ≡ 0 = ap all_places (claimed ∙ none) in
      let room : (length mid.history + 0 + (1 + (5 * length group + 1)) ≤ MOST_ENTRIES → ⊥) = rw zero_places at no_room in
      omega (arith, few, before, most, room)

  full_stops : (entries claimed : ℕ) → 0 < length group → length group ≤ 64 → IsFullCell mid (Claim window (piece_places group)) entries claimed new → IsFullFill start window (gave ++ group) entries claimed new
  full_stops entries claimed some most k = record {
    count = length gave;
    front = front_in k.same;
    group = length group;
    some = omega arith;
    most = most;
    within = omega (arith, length-append gave group);
    full = subst (λ (s : Seen). IsFullCell s (Claim window (5 * length group + 1)) entries claimed new) (sym k.same) k;
    many = full_many (state_now mid).claimed refl h.rest.idle.none_claimed most k.no_room;
  }

pub group_stops : (T : Type 0) (start mid new : Seen) (window : Window) (gave group : List Piece) (written present : ℕ) (stored : List ℕ) (stop : FillStop) → AreIn start window gave written present mid → 0 < length group → length group ≤ 64
    → FillsPieces {T = T} mid window group (Err stop) stored new → StopsBy start window (gave ++ group) stop new
group_stops T start mid new window gave group written present stored DiskFault h some most k = disk_stops start mid new window gave group written present h k
group_stops T start mid new window gave group written present stored (Failed at) h some most k = had_failed start mid new window gave group written present h at some most k.0 k.1 k.2
group_stops T start mid new window gave group written present stored (HistoryFull entries claimed) h some most k = full_stops start mid new window gave group written present h entries claimed some most k
group_stops T start mid new window gave group written present stored OutOfMemory h some most k = (length gave, front_in start mid new window gave group written present h k)
