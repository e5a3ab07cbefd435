-- A log of some reads is, after one more, the log of those and this one.
use Rattle.std.proofs.Common.{◌≡◌, ℕ, ◌+◌, ◌-◌, ◌^◌, cond, ltb, List, [], ◌∷◌, ◌++◌, length, drop, min, sym, ap, ◌∙◌, arith, inl, inr}
use Rattle.std.proofs.lemmas.Bool.{cases_lt, lt-ltb, le-ltb}
use Rattle.std.proofs.lemmas.List.{length-drop, length-append, drop-append-le, drop-drop}
use Rattle.inc_readlog.specs.declared.entry.LogEntry.{LogEntry}
use Rattle.inc_readlog.specs.Log.{LoggedReads, the_last, logged, Tells}

-- the last of the last and one more are the last of all and it
last_more : (room : ℕ) (all : List LogEntry) (entry : LogEntry) → the_last room (the_last room all ++ entry ∷ []) ≡ the_last room (all ++ entry ∷ [])
last_more room all entry =
    let gone = length all - room in
    let kept : length (drop gone all ++ entry ∷ []) ≡ length all - gone + 1 = omega (arith, length-append (drop gone all) (entry ∷ []), length-drop gone all) in
    let total : length (all ++ entry ∷ []) ≡ length all + 1 = omega (arith, length-append all (entry ∷ [])) in
    let joined : drop gone all ++ entry ∷ [] ≡ drop gone (all ++ entry ∷ []) = sym (drop-append-le gone all (entry ∷ []) (omega arith)) in
    ap (λ n. drop (n - room) (drop gone all ++ entry ∷ [])) kept
    ∙ ap (λ xs. drop (length all - gone + 1 - room) xs) joined
    ∙ drop-drop (length all - gone + 1 - room) gone (all ++ entry ∷ [])
    ∙ ap (λ n. drop n (all ++ entry ∷ [])) (omega arith)

lost_more : (room kept total lost : ℕ) → kept ≡ min total room → lost ≡ min (total - room) (2 ^ 64 - 1) → cond (ltb kept room) lost (min (lost + 1) (2 ^ 64 - 1)) ≡ min (total + 1 - room) (2 ^ 64 - 1)
lost_more room kept total lost k l = elim (cases_lt kept room) [
  | inl lt ↦ rw (lt-ltb kept room lt) (omega arith)
  | inr le ↦ rw (le-ltb kept room le) (omega arith)
]

pub tells_more : (log : LoggedReads) (entry : LogEntry) (all : List LogEntry) → Tells all log → Tells (all ++ entry ∷ []) (logged log entry)
tells_more log entry all h = record {
  last = ap (λ xs. the_last log.room (xs ++ entry ∷ [])) h.last ∙ last_more log.room all entry;
  others =
      lost_more log.room (length log.entries) (length all) log.lost (ap length h.last ∙ omega (arith, length-drop (length all - log.room) all)) h.others
      ∙ ap (λ n. min (n - log.room) (2 ^ 64 - 1)) (sym (omega (arith, length-append all (entry ∷ []))));
}
