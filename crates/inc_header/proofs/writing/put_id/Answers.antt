use Rattle.inc_header.proofs.Written.{put_last}
use Rattle.inc_header.proofs.writing.put_id.Goals as goal

pub returns-clause-written : goal.returns-clause-written
returns-clause-written c = put_last c.args.b.now c.copy_from_slice.new.self c.args.id.now c.copy_from_slice.ensures.after
