use Rattle.std.proofs.Common.{◌≡◌, ℕ, ◌+◌, ◌-◌, ◌*◌, ◌∙◌, refl, arith}
use Rattle.sha2.specs.Sha256.{hash_after}
use Rattle.inc_tree.proofs.LaneLemmas.{each_of_four}
use Rattle.inc_tree.proofs.MessageLemmas.{last_piece, next_state}
use Rattle.inc_tree.proofs.digest.four.digest_four.Goals as goal

pub loop-piece-init : goal.loop-piece-init
unfolding hash_after
loop-piece-init c = each_of_four _ refl refl refl refl

pub loop-piece-preserved : goal.loop-piece-preserved
loop-piece-preserved c = λ j lt.
    let from : ℕ = 64 * c.loop-piece.piece in
    let width : ℕ = from + 64 - from in
    next_state c.args.first.now c.args.second.now c.args.third.now c.args.fourth.now c.loop-piece.state c.take_in.new.state
    c.loop-piece.piece from width (omega arith) (omega arith) c.loop-piece.invariant c.take_in.ensures.value j lt

pub returns : goal.returns
returns c =
    let done : c.loop-piece.piece ≡ 64 = omega arith in
    let held = rw done at c.loop-piece.invariant in
    let last = c.take_in-2.ensures.value in
    let first = c.digest_at.ensures.value ∙ last_piece c.args.first.now _ _ c.requires.first (held 0 (omega arith)) (last 0 (omega arith)) in
    let second = c.digest_at-2.ensures.value ∙ last_piece c.args.second.now _ _ c.requires.second (held 1 (omega arith)) (last 1 (omega arith)) in
    let third = c.digest_at-3.ensures.value ∙ last_piece c.args.third.now _ _ c.requires.third (held 2 (omega arith)) (last 2 (omega arith)) in
    let fourth = c.digest_at-4.ensures.value ∙ last_piece c.args.fourth.now _ _ c.requires.fourth (held 3 (omega arith)) (last 3 (omega arith)) in
    record { value = rw (first, second, third, fourth) refl }
