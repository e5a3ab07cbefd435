-- What the loops behind a reply find: the lowest absent hash block, and which indices are open.
use Rattle.std.proofs.Common.{◌≡◌, ℕ, zero, suc, ◌+◌, ◌-◌, ◌<◌, ◌≤◌, ◌⊎◌, Bool, true, false, cond, List, [], ◌∷◌, ◌++◌, length, get_or, take, drop, Some, None, refl, sym, ap, ◌∙◌, arith, inl, inr, ltb, leb}
use Rattle.std.specs.Prelude.{All}
use Rattle.std.proofs.lemmas.List.Elements.{All-head, All-tail}
use Rattle.inc_pending.specs.declared.reads.ReadRow.{ReadRow}
use Rattle.inc_pending.specs.declared.reads.Decision.TheVariants.{Hand, TimedOut, NotYet as waits}
use Rattle.inc_pending.specs.Polling.{is_asked, read_of, decision, decision_of}
use Rattle.std.proofs.lemmas.Bool.{lt-ltb, le-ltb, cases_lt}
use Rattle.std.proofs.lemmas.List.{length-append, get_or_append_left}
use Rattle.std.proofs.Math.Seq.{get_or-append_seam}
use Rattle.inc_ranges.specs.Runs.{is_filled, runs_of, start_or}
use Rattle.inc_model.specs.declared.words.reply.Reply.TheVariants.{BadRange, Filled}
use Rattle.inc_model.specs.relation.State.{Digests, is_in}
use Rattle.inc_model.specs.relation.Polling.{levels_over, hash_on_path, is_hash_there, absent_from, absent_hash}
use Rattle.inc_model.specs.relation.Table.{presence, ranges_reply}

-- ---- the path

module _ (n m : ℕ) (digests : Digests) (block : ℕ) where
  pub absent_start : absent_hash n m digests block ≡ absent_from n m digests block (levels_over n m - 0) 0
  unfolding absent_hash
  absent_start = ap (λ left. absent_from n m digests block left 0) (omega arith)

  here : (left level : ℕ) → is_hash_there n m digests block level ≡ false → absent_from n m digests block (suc left) level ≡ Some (hash_on_path n m block level)
  unfolding absent_from
  here left level e = rw e refl

  more : (left level : ℕ) → is_hash_there n m digests block level ≡ true → absent_from n m digests block (suc left) level ≡ absent_from n m digests block left (level + 1)
  unfolding absent_from
  more left level e = rw e refl

  none : (level : ℕ) → absent_from n m digests block 0 level ≡ None
  unfolding absent_from
  none level = refl

  pub absent_here : (levels level : ℕ) → level < levels → is_hash_there n m digests block level ≡ false → absent_from n m digests block (levels - level) level ≡ Some (hash_on_path n m block level)
  absent_here levels level lt e = ap (λ left. absent_from n m digests block left level) (left levels level lt) ∙ here (levels - (level + 1)) level e
    where
      left : (levels level : ℕ) → level < levels → levels - level ≡ suc (levels - (level + 1))
      left levels level lt = omega arith

  pub absent_more : (levels level : ℕ) → level < levels → is_hash_there n m digests block level ≡ true → absent_from n m digests block (levels - level) level ≡ absent_from n m digests block (levels - (level + 1)) (level + 1)
  absent_more levels level lt e = ap (λ left. absent_from n m digests block left level) (left levels level lt) ∙ more (levels - (level + 1)) level e
    where
      left : (levels level : ℕ) → level < levels → levels - level ≡ suc (levels - (level + 1))
      left levels level lt = omega arith

  pub absent_none : (levels level : ℕ) → levels ≤ level → absent_from n m digests block (levels - level) level ≡ None
  absent_none levels level le = let gone : levels - level ≡ 0 = omega arith in ap (λ left. absent_from n m digests block left level) gone ∙ none level

-- ---- a read that is handed out is of a data block

hand_by : (done floor late : Bool) (block b deadline : ℕ) → Hand block ≡ cond done (cond floor (Hand b) waits) (cond late (TimedOut deadline) waits) → block ≡ b
hand_by true true late block b deadline e = cc
hand_by true false late block b deadline e = absurd (cc)
hand_by false floor true block b deadline e = absurd (cc)
hand_by false floor false block b deadline e = absurd (cc)

hand_row : (n at block : ℕ) (row : ReadRow) → row.block < n → Hand block ≡ decision row at → block < n
hand_row n at block row lt e = let same = hand_by row.done (leb row.floor at) (leb row.deadline at) block row.block row.deadline e in omega arith

pub handed_within : (n who serial at block : ℕ) (reads : List ReadRow) → All (λ row. row.block < n) reads → Hand block ≡ decision_of (read_of who serial reads) at → block < n
handed_within n who serial at block [] h e = absurd (cc)
handed_within n who serial at block (row ∷ rows) h e = step (λ later. handed_within n who serial at block rows (All-tail (λ (r : ReadRow). r.block < n) row rows h) later) (is_asked who serial row) e
  where
    step : (Hand block ≡ decision_of (read_of who serial rows) at → block < n) → (b : Bool) → Hand block ≡ decision_of (cond b (Some row) (read_of who serial rows)) at → block < n
    step rest true here = hand_row n at block row (All-head (λ (r : ReadRow). r.block < n) row rows h) here
    step rest false later = rest later

-- ---- which indices are open

presence_none : (digests : Digests) → presence digests 0 ≡ []
unfolding presence
presence_none digests = refl

presence_next : (digests : Digests) (count : ℕ) → presence digests (suc count) ≡ presence digests count ++ is_in count digests ∷ []
unfolding presence
presence_next digests count = refl

length-presence : (digests : Digests) (count : ℕ) → length (presence digests count) ≡ count
length-presence digests zero = ap length (presence_none digests)
length-presence digests (suc count) = ap length (presence_next digests count) ∙ length-append (presence digests count) (is_in count digests ∷ []) ∙ (let e = length-presence digests count in omega arith)

pub presence_count : (digests : Digests) (count size : ℕ) → size ≡ count → size ≡ length (presence digests count)
presence_count digests count size e = e ∙ sym (length-presence digests count)

filled_at : (digests : Digests) (count index : ℕ) → index < count → is_filled (presence digests count) index ≡ is_in index digests
filled_at digests zero index lt = absurd (omega arith)
filled_at digests (suc count) index lt = ap (λ l. is_filled l index) (presence_next digests count) ∙ elim (cases_lt index count) [
  | inl below ↦ get_or_append_left (presence digests count) (is_in count digests ∷ []) false index (let e = length-presence digests count in omega arith) ∙ filled_at digests count index below
  | inr last ↦
      let same : index ≡ count = omega arith in
      rw same (ap (λ n. get_or (presence digests count ++ is_in count digests ∷ []) n false) (sym (length-presence digests count)) ∙ get_or-append_seam (presence digests count) (is_in count digests) [] false)
]

pub presence_at : (digests : Digests) (count index : ℕ) → index < length (presence digests count) → is_in index digests ≡ is_filled (presence digests count) index
presence_at digests count index lt = sym (filled_at digests count index (let e = length-presence digests count in omega arith))

-- ---- ranges

module _ (digests : Digests) (count start end room : ℕ) (present : List Bool) (is : present ≡ presence digests count) where
  long : length present ≡ count
  long = ap length is ∙ length-presence digests count

  pub ranges_bad : (end < start) ⊎ (length present < end) → BadRange ≡ ranges_reply digests count start end room
  ranges_bad (inl lt) = rw (lt-ltb end start lt) refl
  ranges_bad (inr lt) = let past : count < end = (let e = long in omega arith) in elim (cases_lt end start) [
    | inl order ↦ rw (lt-ltb end start order) refl
    | inr order ↦ rw (le-ltb end start order, lt-ltb count end past) refl
  ]

  pub ranges_filled : ((end < start) ⊎ (length present < end) → ⊥) → (list : List (ℕ × ℕ)) (next : ℕ) (more : Bool) → list ≡ take room (runs_of present start end) → next ≡ start_or end (drop room (runs_of present start end)) → more ≡ ltb room (length (runs_of present start end)) → Filled list next more ≡ ranges_reply digests count start end room
  ranges_filled good list next more l n m =
      let order : ltb end start ≡ false = elim (cases_lt end start) [ inl lt ↦ absurd (good (inl lt)) | inr le ↦ le-ltb end start le ] in
      let within : ltb count end ≡ false = elim (cases_lt count end) [ inl lt ↦ absurd (good (inr (let e = long in omega arith))) | inr le ↦ le-ltb count end le ] in
      rw (order, within, l, n, m, is) refl
