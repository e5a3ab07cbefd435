use Rattle.std.proofs.Common.{◌≡◌, ℕ, List, ◌+◌, ◌%◌, arith, refl}
use Rattle.inc_tree.proofs.RoundLemmas.{column_at}
use Rattle.inc_tree.proofs.digest.rounds.next_word.Goals as goal

pub returns-clause-value : goal.returns-clause-value
returns-clause-value c j h =
    let place : ℕ = c.args.place in
    let words : List (List ℕ) = c.args.words.now in
    let at : place % 16 ≡ place = omega arith in
    rw (
      at,
      column_at j words ((place + 14) % 16),
      column_at j words ((place + 9) % 16),
      column_at j words ((place + 1) % 16),
      column_at j words place,
      c.add-word.ensures.sum j h,
      c.add.ensures.sum j h,
      c.small_sigma0.ensures.value j h,
      c.add-near.ensures.sum j h,
      c.small_sigma1.ensures.value j h,
    ) refl
