-- One group more is in, after the pieces before it.
use Rattle.std.proofs.Common.{◌≡◌, ℕ, ◌+◌, ◌-◌, ◌*◌, ◌<◌, ◌≤◌, inl, inr, Bool, true, false, ◌||◌, eqb, List, [], ◌∷◌, ◌++◌, length, Option, Some, None, refl, sym, ap, subst, ◌∙◌, arith, append_assoc, length-append}
use Rattle.std.specs.Prelude.{map, is_some, not}
use Rattle.std.proofs.lemmas.List.{map-append, length-map}
use Rattle.std.proofs.lemmas.List.Elements.{filter_map-append}
use Rattle.std.proofs.lemmas.List.Sums.{count_by-le-length, length-filter}
use Rattle.inc_pending.specs.Keyed.{lookup}
use Rattle.inc_frame.specs.declared.piece.Piece.{Piece}
use Rattle.inc_layout.specs.declared.opened.Opened.{Opened}
use Rattle.inc_model.specs.relation.State.{Digests, has, is_in}
use Rattle.inc_model.specs.declared.words.event.Event.{Event}
use Rattle.inc_model.specs.declared.words.event.Event.TheVariants.{Claim, Gate, PutPlace, Release, Settle}
use Rattle.inc_model.specs.declared.words.event.Window.{Window}
use Rattle.inc_cell.specs.seen.Seen.{Seen, state_now}
use Rattle.inc_filling.specs.Contents.{FilledFile, index_of_piece, with_piece, with_pieces}
use Rattle.inc_filling.specs.Filled.{AreIn, gate_in, gates_among}
use Rattle.inc_filling.specs.Grouped.{AllOpen, gates_of_each, places_of_each, put_in, puts_among, stored_of, stores_of}
use Rattle.inc_filling.specs.Pieces.{FillsFile, PiecesAreIn, digest_of_piece, piece_events, piece_indices, piece_places, piece_puts, put_of_piece}
use Rattle.inc_filling.specs.Stands.{HasTaken, IsAtRest, KeepsOpen, RunsFrom, events_of}
use Rattle.inc_filling.proofs.lemmas.EventLemmas.{same_file}
use Rattle.inc_cell.proofs.openings.RunLemmas.{runs_join}
use Rattle.inc_cell.specs.laws.Runs.{CellRuns}
use Rattle.inc_filling.specs.Fillable.{IsFillable}

-- ---- events after events

runs_both : (start mid new : Seen) → RunsFrom start mid → RunsFrom mid new → RunsFrom start new
runs_both start mid new first (inl same) = subst (λ (s : Seen). RunsFrom start s) (sym same) first
runs_both start mid new (inl same) (inr run) = inr (subst (λ (s : Seen). CellRuns s new) same run)
runs_both start mid new (inr first) (inr run) = inr (runs_join start mid new first run)

pub takes_both : (start mid new : Seen) (events more : List Event) → HasTaken start events mid → HasTaken mid more new → HasTaken start (events ++ more) new
takes_both start mid new events more h k = record {
  runs = runs_both start mid new h.runs k.runs;
  taken = k.taken ∙ ap (λ (l : List Event). l ++ more) h.taken ∙ append_assoc _ events more;
  opened = k.opened ∙ h.opened;
  opening = k.opening ∙ h.opening;
  facts = k.facts;
  same = same_file (state_now start) (state_now mid) (state_now new) h.same k.same;
  stays = λ i digest there. k.stays i digest (h.stays i digest there);
}

pub none_taken_of : (seen : Seen) → IsAtRest seen → HasTaken seen [] seen
none_taken_of seen idle = record {
  runs = inl refl;
  taken = right (events_of seen.history);
  opened = refl;
  opening = refl;
  facts = idle.facts;
  same = (refl, refl, refl, refl, refl, refl);
  stays = λ i digest there. there;
}
  where
    right : (xs : List Event) → xs ≡ xs ++ []
    right [] = refl
    right (x ∷ xs) = ap (λ (rest : List Event). x ∷ rest) (right xs)

-- ---- the gates among the events of a group

no_gate_of_put : (opened : Opened) (window : Window) (pieces : List Piece) → gates_among (map (put_of_piece opened window) pieces) ≡ []
no_gate_of_put opened window [] = refl
no_gate_of_put opened window (p ∷ ps) = no_gate_of_put opened window ps

no_gate_of_place : (window : Window) (indices : List ℕ) → gates_among (places_of_each window indices) ≡ []
no_gate_of_place window [] = refl
no_gate_of_place window (i ∷ is) = no_gate_of_place window is

gates_of_gates : (window : Window) (indices : List ℕ) → gates_among (gates_of_each window indices) ≡ indices
gates_of_gates window [] = refl
gates_of_gates window (i ∷ is) = ap (λ (l : List ℕ). i ∷ l) (gates_of_gates window is)

nil_right : (xs : List ℕ) → xs ++ [] ≡ xs
nil_right [] = refl
nil_right (x ∷ xs) = ap (λ (l : List ℕ). x ∷ l) (nil_right xs)

gates_of_stores : (window : Window) (stored : List ℕ) → gates_among (stores_of window stored) ≡ stored
gates_of_stores window [] = refl
gates_of_stores window (i ∷ is) =
    filter_map-append gate_in (places_of_each window (i ∷ is)) (Settle window ∷ (gates_of_each window (i ∷ is) ++ (Settle window ∷ [])))
    ∙ ap (λ (l : List ℕ). l ++ gates_among (gates_of_each window (i ∷ is) ++ (Settle window ∷ []))) (no_gate_of_place window (i ∷ is))
    ∙ filter_map-append gate_in (gates_of_each window (i ∷ is)) (Settle window ∷ [])
    ∙ ap (λ (l : List ℕ). l ++ []) (gates_of_gates window (i ∷ is))
    ∙ nil_right (i ∷ is)

gates_of_group : (opened : Opened) (window : Window) (pieces : List Piece) (stored : List ℕ) → gates_among (piece_events opened window pieces stored) ≡ stored
gates_of_group opened window pieces stored =
    let claim = Claim window (piece_places pieces) ∷ [] in
    let puts = map (put_of_piece opened window) pieces in
    filter_map-append gate_in ((claim ++ puts) ++ stores_of window stored) (Release window ∷ [])
    ∙ nil_right (gates_among ((claim ++ puts) ++ stores_of window stored))
    ∙ filter_map-append gate_in (claim ++ puts) (stores_of window stored)
    ∙ ap (λ (l : List ℕ). l ++ gates_among (stores_of window stored)) (no_gate_of_put opened window pieces)
    ∙ gates_of_stores window stored

-- ---- how many events a group has

stores_length : (window : Window) (stored : List ℕ) → length (stores_of window stored) ≤ 2 * length stored + 2
stores_length window [] = omega arith
stores_length window (i ∷ is) =
    omega (
      arith,
      length-append (places_of_each window (i ∷ is)) (Settle window ∷ (gates_of_each window (i ∷ is) ++ (Settle window ∷ []))),
      length-append (gates_of_each window (i ∷ is)) (Settle window ∷ []),
      length-map (i ∷ is) (PutPlace window),
      length-map (i ∷ is) (Gate window),
    )

group_length : (opened : Opened) (window : Window) (pieces : List Piece) (stored : List ℕ) → 0 < length pieces → length stored ≤ length pieces → length (piece_events opened window pieces stored) ≤ 7 * length pieces
group_length opened window pieces stored some fewer =
    let claim = Claim window (piece_places pieces) ∷ [] in
    let puts = map (put_of_piece opened window) pieces in
    omega (
      arith,
      length-append ((claim ++ puts) ++ stores_of window stored) (Release window ∷ []),
      length-append (claim ++ puts) (stores_of window stored),
      length-append claim puts,
      length-map pieces (put_of_piece opened window),
      stores_length window stored,
      some,
      fewer,
    )

pub fewer_stored : (open_ones : Digests) (opened : Opened) (pieces : List Piece) (stored : List ℕ) → stored ≡ stored_of open_ones (piece_indices opened pieces) → length stored ≤ length pieces
fewer_stored open_ones opened pieces stored e =
    let absent = λ (i : ℕ). not (is_in i open_ones) in
    omega (arith, ap length e, length-filter absent (piece_indices opened pieces), count_by-le-length absent (piece_indices opened pieces), length-map pieces (index_of_piece opened))

-- ---- what is open

has_both : (i : ℕ) (xs ys : List ℕ) → has i (xs ++ ys) ≡ (has i xs || has i ys)
has_both i [] ys = refl
has_both i (x ∷ xs) ys = ap (λ (b : Bool). eqb i x || b) (has_both i xs ys) ∙ joined (eqb i x) (has i xs) (has i ys)
  where
    joined : (a b c : Bool) → (a || (b || c)) ≡ ((a || b) || c)
    joined true b c = refl
    joined false b c = refl

stays_open : (before after : Digests) (i : ℕ) → KeepsOpen before after → is_in i before ≡ true → is_in i after ≡ true
stays_open before after i keeps e = step (lookup i before) refl e
  where
    step : (found : Option (List ℕ)) → lookup i before ≡ found → is_some found ≡ true → is_in i after ≡ true
    step None f t = absurd (cc)
    step (Some digest) f t = ap is_some (keeps i digest f)

all_open_both : (before after : Digests) (xs ys : List ℕ) → KeepsOpen before after → AllOpen before xs → AllOpen after ys → AllOpen after (xs ++ ys)
all_open_both before after xs ys keeps first second i e = step (has i xs) refl (sym (has_both i xs ys) ∙ e)
  where
    step : (b : Bool) → has i xs ≡ b → (b || has i ys) ≡ true → is_in i after ≡ true
    step true f t = stays_open before after i keeps (first i f)
    step false f t = second i t

-- ---- the bytes

pub with_more : (opened : Opened) (file : FilledFile) (pieces more : List Piece) → with_pieces opened file (pieces ++ more) ≡ with_pieces opened (with_pieces opened file pieces) more
with_more opened file [] more = refl
with_more opened file (p ∷ ps) more = with_more opened (with_piece opened file p) ps more

-- ---- the whole

pub no_piece_in : (old : Seen) (window : Window) → IsFillable old → AreIn old window [] 0 0 old
no_piece_in old window h = record {
  events = [];
  taken = none_taken_of old h.idle;
  puts_are = refl;
  gates_are = refl;
  all_told = refl;
  few = omega arith;
  rest = h;
  sound = inl (refl, refl);
  count = refl;
  there = λ i e. absurd (cc);
  contents = λ file e. record { reads = e; written_is = omega arith; present_is = omega arith };
}

joined_in : (start mid new : Seen) (window : Window) (gave group : List Piece) (written present : ℕ) (stored : List ℕ) → AreIn start window gave written present mid → mid.opened ≡ start.opened → 0 < length group
    → PiecesAreIn mid window group stored new → AreIn start window (gave ++ group) (written + length stored) (present + (length group - length stored)) new
joined_in start mid new window gave group written present stored h same some k =
    let more = piece_events mid.opened window group stored in
    let fewer = fewer_stored (state_now mid).map mid.opened group stored k.stored_are in
    record {
      events = h.events ++ more;
      taken = takes_both start mid new h.events more h.taken k.taken;
      puts_are = filter_map-append put_in h.events more ∙ ap (λ (l : List (ℕ × List ℕ)). l ++ puts_among more) h.puts_are
          ∙ ap (λ (l : List (ℕ × List ℕ)). piece_puts start.opened gave ++ l) (k.puts_are ∙ ap (λ (o : Opened). piece_puts o group) same)
          ∙ sym (map-append (λ (p : Piece). (index_of_piece start.opened p, digest_of_piece start.opened p)) gave group);
      gates_are = ap length (filter_map-append gate_in h.events more) ∙ length-append (gates_among h.events) (gates_among more)
          ∙ ap (λ (n : ℕ). n + length (gates_among more)) h.gates_are ∙ ap (λ (l : List ℕ). written + length l) (gates_of_group mid.opened window group stored);
      all_told = omega (arith, h.all_told, fewer, length-append gave group);
      few = omega (arith, h.few, group_length mid.opened window group stored some fewer, length-append h.events more, length-append gave group);
      rest = k.rest;
      sound = inr k.sound;
      count = k.count ∙ h.count;
      there = rw (map-append (index_of_piece start.opened) gave group)
          (all_open_both (state_now mid).map (state_now new).map (piece_indices start.opened gave) (piece_indices start.opened group) k.taken.stays h.there (rw same at k.there));
      contents = λ file e.
          let first = h.contents file e in
          let second : FillsFile start.opened group stored (with_pieces start.opened file gave) new.states = rw same at k.contents (with_pieces start.opened file gave) first.reads in
          let is = with_more start.opened file gave group in
          record {
            reads = second.reads ∙ ap (λ (f : FilledFile). Some f.bytes) (sym is);
            written_is = ap (λ (f : FilledFile). f.written) is ∙ second.written ∙ omega (arith, first.written_is);
            present_is = ap (λ (f : FilledFile). f.present) is ∙ second.present ∙ omega (arith, first.present_is);
          };
    }

pub group_is_in : (start mid new : Seen) (window : Window) (gave group : List Piece) (written present : ℕ) (stored : List ℕ) → AreIn start window gave written present mid → 0 < length group
    → PiecesAreIn mid window group stored new → AreIn start window (gave ++ group) (written + length stored) (present + (length group - length stored)) new
group_is_in start mid new window gave group written present stored h some k = joined_in start mid new window gave group written present stored h h.taken.opened some k
