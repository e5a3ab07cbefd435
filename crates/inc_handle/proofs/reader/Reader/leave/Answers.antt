use Rattle.inc_cell.specs.events.CellEvents.{footing_of}
use Rattle.inc_handle.proofs.reader.Reader.leave.Goals as goal

pub returns-clause-legal : goal.returns-clause-legal
returns-clause-legal g c = c.leave_at.ensures.legal (footing_of c.args.self.now.file.now.begun.value)
