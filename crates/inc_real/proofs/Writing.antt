-- A piece that is written front by front.
use Rattle.std.proofs.Common.{◌≡◌, ◌+◌, ◌≤◌, ℕ, List, [], ◌∷◌, ◌++◌, length, take, drop, Option, None, Some, refl, sym, ◌∙◌, ap, subst, arith, append_assoc, length-append, length-drop, ◌-◌}
use Rattle.std.proofs.Math.Seq.{take-add, take-length}
use Rattle.std.proofs.lemmas.List.{append-nil, length-take-le}
use Rattle.std.specs.Option.{option_map}
use Rattle.inc_real.specs.declared.file.FileCall.{FileCall}
use Rattle.inc_real.specs.declared.file.FileCall.TheVariants.{Wrote, SyncedAll}
use Rattle.inc_real.specs.Calls.{AreWritesOf, HasWritten}

both_written : (at then : ℕ) (first second : List ℕ) (calls more : List FileCall) → then ≡ at + length first → AreWritesOf at first calls → AreWritesOf then second more
    → AreWritesOf at (first ++ second) (calls ++ more)
both_written at then first second [] more here empty writes =
    let none : length first ≡ 0 = ap (λ (p : List ℕ). length p) empty in
    let there : then ≡ at = omega arith in
    let P : ℕ → Type 0 = λ n. AreWritesOf n second more in
    let Q : List ℕ → Type 0 = λ p. AreWritesOf at (p ++ second) more in
    subst Q (sym empty) (subst P there writes)
both_written at then first second (Wrote place part ∷ calls) more here (same, (rest, whole, before)) writes =
    let long : length first ≡ length part + length rest = ap (λ (p : List ℕ). length p) whole ∙ length-append part rest in (
      same,
      (
        rest ++ second,
        ap (λ (p : List ℕ). p ++ second) whole ∙ append_assoc part rest second,
        both_written (at + length part) then rest second calls more (omega arith) before writes,
      ),
    )
both_written at then first second (SyncedAll ∷ calls) more here never writes = absurd never

-- nothing of the piece is written at first
pub none_written : (at : ℕ) (piece : List ℕ) (before after : Option (List FileCall)) → after ≡ before → HasWritten at (take 0 piece) before after
none_written at piece None after same = tt
none_written at piece (Some calls) after same = ([], same ∙ ap (λ (c : List FileCall). Some c) (sym (append-nil calls)), refl)

pub front_written : (at count : ℕ) (piece : List ℕ) (before after : Option (List FileCall)) → after ≡ option_map (λ calls. calls ++ Wrote at (take count piece) ∷ []) before
    → HasWritten at (take count piece) before after
front_written at count piece None after took = tt
front_written at count piece (Some calls) after took = (Wrote at (take count piece) ∷ [], took, (refl, ([], sym (append-nil (take count piece)), refl)))

pub next_written : (at done count then : ℕ) (piece : List ℕ) (before mid after : Option (List FileCall)) → done ≤ length piece → then ≡ at + done
    → HasWritten at (take done piece) before mid → HasWritten then (take count (drop done piece)) mid after → HasWritten at (take (done + count) piece) before after
next_written at done count then piece None mid after within here written more = tt
next_written at done count then piece (Some calls) None after within here (front, told, writes) more = absurd (cc)
next_written at done count then piece (Some calls) (Some there) after within here (front, told, writes) (rest, last, others) =
    let same : there ≡ calls ++ front = cc in (
      front ++ rest,
      last ∙ ap (λ (c : List FileCall). Some (c ++ rest)) same ∙ ap (λ (c : List FileCall). Some c) (append_assoc calls front rest),
      subst (λ (p : List ℕ). AreWritesOf at p (front ++ rest)) (sym (take-add done count piece))
          (both_written at then (take done piece) (take count (drop done piece)) front rest (here ∙ ap (λ n. at + n) (sym (length-take-le done piece within))) writes others),
    )

-- `&piece[done..]` is all that is left
pub whole_rest : (done : ℕ) (piece : List ℕ) → take (length piece - done) (drop done piece) ≡ drop done piece
whole_rest done piece = rw (sym (length-drop done piece)) (take-length (drop done piece))
