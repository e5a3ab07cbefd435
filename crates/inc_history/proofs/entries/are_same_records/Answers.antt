use Rattle.std.proofs.Common.{◌≡◌, rules}
use Rattle.std.specs.Bool.{Decides}
use Rattle.std.proofs.lemmas.Slice.Eq.{slice_eq-Decides}
use Rattle.inc_history.proofs.entries.are_same_records.Goals as goal

pub returns : goal.returns
returns c =
    let same : Decides c.eq.result (c.as_slice.result.now ≡ c.as_slice-2.result.now) = slice_eq-Decides (λ a b. search rules) _ _ _ c.eq.ensures in
    record { exact = rw (c.as_slice.ensures.value, c.as_slice-2.ensures.value) at same }
