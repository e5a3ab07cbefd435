use Rattle.std.proofs.Common.{subst}
use Rattle.inc_disk.specs.Disk.{Now}
use Rattle.inc_model.specs.relation.Step.{IsLegal}
use Rattle.inc_cell.specs.laws.Laws.{BeginsAs}
use Rattle.inc_cell.specs.seen.Parts.{opening_of}
use Rattle.inc_cell.specs.laws.Runs.{CellRuns}
use Rattle.inc_cell.specs.seen.Seen.{Seen, state_now, tells}
use Rattle.inc_cell.specs.seen.Standing.{ReadsAs}
use Rattle.inc_cell.proofs.steps.CellLemmas.{with_history}
use Rattle.inc_cell.proofs.handing.ReadLemmas.{holds_images, holds_reads}
use Rattle.inc_cell.proofs.openings.RunLemmas.{runs_from_now}
use Rattle.inc_cell.proofs.cell.FileCell.history.Goals as goal

pub returns-clause-begins : goal.returns-clause-begins
returns-clause-begins g c = subst (λ (s : Seen). BeginsAs s.opened s.opening) c.self.view_is c.self.invariant.holds.begins

pub returns-clause-legal : goal.returns-clause-legal
returns-clause-legal g c = subst (λ (s : Seen). IsLegal 0 (tells s.states) s.opening s.history) c.self.view_is c.self.invariant.holds.legal

pub returns-clause-runs : goal.returns-clause-runs
returns-clause-runs g c =
    let seen : Seen = with_history (g.D.Disk.states (g.D.Backing.kept c.self.inside.disk)) (g.D.Backing.faults c.self.inside.disk) c.self.inside.opened (opening_of c.self.inside.opened c.self.inside.first_faults c.self.inside.first_readers) c.self.inside.log c.self.inside.book.history in
    subst (λ (s : Seen). CellRuns s s) c.self.view_is (runs_from_now seen (holds_images seen c.self.inside.end c.self.invariant.holds))

pub returns-clause-reads : goal.returns-clause-reads
returns-clause-reads g c =
    let seen : Seen = with_history (g.D.Disk.states (g.D.Backing.kept c.self.inside.disk)) (g.D.Backing.faults c.self.inside.disk) c.self.inside.opened (opening_of c.self.inside.opened c.self.inside.first_faults c.self.inside.first_readers) c.self.inside.log c.self.inside.book.history in
    subst (λ (s : Seen). Now s.states (λ disk. ReadsAs s.opened (state_now s) disk.reads)) c.self.view_is
    (holds_reads seen c.self.inside.end c.self.invariant.holds (g.met.D.Disk.sound c.self.inside.disk))
