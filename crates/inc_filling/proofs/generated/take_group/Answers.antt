use Rattle.std.proofs.Common.{◌≡◌, List, ◌∷◌, ap, sym, ◌∙◌}
use Rattle.inc_frame.specs.declared.piece.Piece.{Piece}
use Rattle.inc_loader.specs.PiecesLeft.{left_of}
use Rattle.inc_filling.proofs.streams.Generated.{next_may_wait, one_further}
use Rattle.inc_filling.proofs.generated.take_group.Goals as goal

pub taking-preserved : goal.taking-preserved
taking-preserved c =
    let piece = c.in_ok-piece.piece in
    let waiting = c.taking.waiting.pieces.items in
    let after = c.push_reserved.new.self.items in
    let rest : List Piece = left_of c.pass.new.self in
    let first : left_of c.taking.content ≡ piece ∷ rest = c.in_ok-piece.ensures.first ∙ ap (λ (l : List Piece). piece ∷ l) (sym c.pass.ensures.left) in
    record {
      front = one_further (left_of c.args.content.now) waiting (left_of c.taking.content) after rest piece c.taking.invariant.front first c.push_reserved.ensures.items;
      may = λ opened taken. next_may_wait c.args.content.now c.taking.content opened waiting after rest piece c.taking.invariant.front first c.push_reserved.ensures.items taken (c.taking.invariant.may opened taken);
    }
