use Rattle.std.proofs.Common.{sym, ◌∙◌, subst, None, ◌≡◌}
use Rattle.inc_frame.specs.declared.piece.Piece.{Piece}
use Rattle.inc_filling.specs.Refusals.{refusal_of}
use Rattle.inc_filling.specs.Rounds.{AreOtherBlocks}
use Rattle.inc_filling.proofs.streams.WaitingPieces.{may_wait_more, same_first}
use Rattle.inc_filling.proofs.from_stream.gathering.take_next.Goals as goal

pub returns-in_default-clause-pauses : goal.returns-in_default-clause-pauses
returns-in_default-clause-pauses g c = (c.requires.fed, c.end_of.ensures.end c.args.cell.now.opened)

pub returns-clause-may : goal.returns-clause-may
returns-clause-may g c =
    let piece = c.unwrap-piece.result in
    let is = same_first c.args.pieces.now.whole.items _ c.in-Some.next.now piece c.in-Some.ensures.first c.take.new.self.whole.items (rw c.unwrap-piece.ensures at c.take.ensures.front) in
    may_wait_more c.args.cell.now.opened c.args.waiting.now.pieces.items c.push_reserved.new.self.items piece c.push_reserved.ensures.items c.requires.may
    (subst (λ (p : Piece). refusal_of c.args.cell.now.opened p ≡ None) (sym is) (sym c.piece_refusal.ensures.value ∙ c.in_default-piece_refusal.is))
    (subst (λ (p : Piece). AreOtherBlocks p c.args.waiting.now.pieces.items) (sym is) (rw c.as_slice.ensures.value at c.waits.ensures.others c.if-waits.false))
