use Rattle.std.proofs.Common.{◌≡◌, ℕ, true, List, Option, sym, ap, subst, ◌∙◌, rules}
use Rattle.std.specs.Prelude.{is_some, not, slice_index}
use Rattle.inc_model.specs.relation.State.{is_in}
use Rattle.inc_cell.specs.device.Early.{MayEarly, with_count}
use Rattle.inc_cell.specs.seen.Parts.{opening_of}
use Rattle.inc_cell.specs.seen.Seen.{Seen}
use Rattle.inc_cell.proofs.steps.CellLemmas.{with_history}
use Rattle.inc_cell.proofs.handing.EarlyLemmas.{early_here, early_missed, early_there, made_early, missed_may}
use Rattle.inc_cell.proofs.cell.FileCell.read_early.Goals as goal
use Rattle.inc_cell.proofs.cell.FileCell.read_early.Goals.{in-Ok, in-Err}

pub block_len-len-requires : goal.block_len-len-requires
block_len-len-requires g c =
    let there : is_in c.args.block c.self.inside.book.state.map ≡ true = sym (ap (λ (o : Option (List ℕ)). is_some o) c.digest_of.ensures.value) ∙ c.is_none.ensures ∙ ap not c.if-is_none.false in
    early_here (with_history (g.D.Disk.states (g.D.Backing.kept c.self.inside.disk)) (g.D.Backing.faults c.self.inside.disk) c.self.inside.opened (opening_of c.self.inside.opened c.self.inside.first_faults c.self.inside.first_readers) c.self.inside.log c.self.inside.book.history) c.self.inside.book.state c.self.inside.spots.items c.self.inside.end c.self.invariant c.args.block there

pub returns-clause-early : goal.returns-clause-early
returns-clause-early g c =
    let there : is_in c.args.block c.self.inside.book.state.map ≡ true = sym (ap (λ (o : Option (List ℕ)). is_some o) c.digest_of.ensures.value) ∙ c.is_none.ensures ∙ ap not c.if-is_none.false in
    let seen : Seen = with_history (g.D.Disk.states (g.D.Backing.kept c.self.inside.disk)) (g.D.Backing.faults c.self.inside.disk) c.self.inside.opened (opening_of c.self.inside.opened c.self.inside.first_faults c.self.inside.first_readers) c.self.inside.log c.self.inside.book.history in
    let count = g.D.Backing.faults c.read_stored.new.file in
    let place : c.spot_at-place.result ≡ slice_index c.self.inside.spots.items c.args.block = search rules in
    subst (λ (o : Seen). MayEarly o.count (record { states = g.D.Disk.states (g.D.Backing.kept c.read_stored.new.file); count = g.D.Backing.faults c.read_stored.new.file; opened = c.self.inside.opened; opening = opening_of c.self.inside.opened c.self.inside.first_faults c.self.inside.first_readers; history = c.self.inside.book.history; log = c.self.inside.log }) c.args.block c.match-read_stored.result) c.self.view_is
    (subst (λ k. MayEarly (g.D.Backing.faults c.self.inside.disk) (record { states = g.D.Disk.states k; count = g.D.Backing.faults c.read_stored.new.file; opened = c.self.inside.opened; opening = opening_of c.self.inside.opened c.self.inside.first_faults c.self.inside.first_readers; history = c.self.inside.book.history; log = c.self.inside.log }) c.args.block c.match-read_stored.result) (sym c.read_stored.ensures.kept)
    (elim c.match-read_stored.branch [
      | in-Ok w ↦
          subst (λ (r : Option (List ℕ)). MayEarly (g.D.Backing.faults c.self.inside.disk) (with_count count seen) c.args.block r) (sym w.result-is) (
            w.in-Ok.ensures.cause.kept (λ e. absurd (cc)),
            made_early seen c.self.inside.book.state c.self.inside.spots.items c.self.inside.end c.self.invariant c.args.block there c.spot_at-place.result c.block_len-len.result place c.block_len-len.ensures.value w.in-Ok.bytes count
                (g.D.Backing.reads (g.D.Backing.kept c.self.inside.disk)) (g.met.D.Disk.reads_now (g.D.Backing.kept c.self.inside.disk)) w.in-Ok.ensures.whole w.in-Ok.ensures.value,
          )
      | in-Err w ↦
          subst (λ (r : Option (List ℕ)). MayEarly (g.D.Backing.faults c.self.inside.disk) (with_count count seen) c.args.block r) (sym w.result-is)
          (missed_may seen count c.args.block (early_there seen c.self.inside.book.state c.self.inside.spots.items c.self.inside.end c.self.invariant c.args.block there)
          (early_missed (g.D.Backing.faults c.self.inside.disk) count w.in-Err.field-0 w.in-Err.ensures.cause))
    ]))
