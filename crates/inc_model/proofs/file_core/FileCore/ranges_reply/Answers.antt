use Rattle.std.proofs.Common.{◌+◌, Err, ap, refl}
use Rattle.inc_model.proofs.executed.Replies.{ranges_bad, ranges_filled}
use Rattle.inc_model.proofs.file_core.FileCore.ranges_reply.Goals as goal

pub returns-in-Ok : goal.returns-in-Ok
returns-in-Ok g c =
    let s = c.args.self.now.state in
    record { value = ranges_filled s.map (s.n + s.m) c.args.start c.args.end c.args.room _ refl (λ bad. let e = c.in-Ok.ensures.bad.1 bad in absurd (cc)) _ _ _ c.in-Ok.ensures.list c.in-Ok.ensures.next c.in-Ok.ensures.more }

pub returns-in-Err-BadRange : goal.returns-in-Err-BadRange
returns-in-Err-BadRange g c =
    let s = c.args.self.now.state in
    record { value = ranges_bad s.map (s.n + s.m) c.args.start c.args.end c.args.room _ refl (c.in-Err-BadRange.ensures.bad.0 (ap Err c.in-Err-BadRange.field-0-is)) }
