-- The list of what is present tells of the map.
use Rattle.std.proofs.Common.{◌≡◌, ℕ, zero, suc, ◌<◌, false, [], ◌∷◌, length, refl, sym, ap, ◌∙◌, arith, inl, inr, length-append}
use Rattle.std.proofs.lemmas.Bool.{cases_lt}
use Rattle.std.proofs.lemmas.List.{get_or_append_left, get_or_push}
use Rattle.inc_ranges.specs.Runs.{is_filled}
use Rattle.inc_model.specs.relation.State.{Digests, is_in}
use Rattle.inc_model.specs.relation.Table.{presence}

pub length-presence : (digests : Digests) (count : ℕ) → length (presence digests count) ≡ count
unfolding presence
length-presence digests zero = refl
length-presence digests (suc count) = omega (arith, length-append (presence digests count) (is_in count digests ∷ []), length-presence digests count)

pub presence_at : (digests : Digests) (count index : ℕ) → index < count → is_filled (presence digests count) index ≡ is_in index digests
unfolding presence
presence_at digests zero index lt = absurd (omega arith)
presence_at digests (suc count) index lt = elim (cases_lt index count) [
  | inl inside ↦ get_or_append_left (presence digests count) (is_in count digests ∷ []) false index (omega (arith, length-presence digests count)) ∙ presence_at digests count index inside
  | inr last ↦
      let same : index ≡ count = omega arith in
      get_or_push (presence digests count) (is_in count digests) false index (omega (arith, length-presence digests count)) ∙ ap (λ i. is_in i digests) (sym same)
]
