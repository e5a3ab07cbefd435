use Rattle.std.proofs.Common.{List, ◌∷◌, [], ◌++◌, ap, ◌∙◌}
use Rattle.inc_turn.proofs.SeatMoves.{opens_with}
use Rattle.inc_turn.proofs.opening.lock_round.Goals as goal

pub new-requires : goal.new-requires
new-requires g c =
    opens_with g.M.Machine.history g.M.Machine.footing c.push_reserved.new.self.items c.of-key.result.value c.args.machine
    (c.push_reserved.ensures.items ∙ ap (λ (xs : List g.row.M.Denot). xs ++ c.args.machine ∷ []) c.in-Ok.ensures.items) c.of-key.ensures
