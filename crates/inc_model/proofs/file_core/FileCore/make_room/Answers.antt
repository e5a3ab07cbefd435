use Rattle.std.proofs.Common.{◌+◌, ◌<◌, vec_len, arith}
use Rattle.inc_model.proofs.executed.Room.{on_err, room_short}
use Rattle.inc_model.proofs.file_core.FileCore.make_room.Goals as goal

pub returns-in_err-reserve-2-clause-memory : goal.returns-in_err-reserve-2-clause-memory
returns-in_err-reserve-2-clause-memory g c =
    let full = c.in_err-reserve-2.ensures.full in
    let long = c.len.ensures in
    let same = c.reserve.ensures.len in
    let short : g.I.Indices.room c.self.inside.indices < vec_len c.self.inside.flight + c.args.places = omega arith in
    rw (← c.self.view_is) (on_err c.from_residual-in_err-reserve-2.result (room_short _ (vec_len c.self.inside.flight) (g.I.Indices.room c.self.inside.indices) c.args.places (omega arith) short))
