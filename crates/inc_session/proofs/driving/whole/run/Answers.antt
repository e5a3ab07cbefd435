use Rattle.std.proofs.Common.{◌∙◌, inl, ℕ, sym, ap, arith}
use Rattle.std.specs.Prelude.{replicate}
use Rattle.inc_script.specs.declared.report_text.ends.DriveEnd.TheVariants as end
use Rattle.inc_session.specs.DriveSeats.{files_of, homes_of}
use Rattle.inc_session.proofs.fills.SeatSteps.{homes_count}
use Rattle.inc_session.proofs.turns.EndLemmas.{begins, ends_unbegun}
use Rattle.inc_session.proofs.driving.whole.run.Goals as goal

pub returns-in_default-clause-ends : goal.returns-in_default-clause-ends
returns-in_default-clause-ends g c = ends_unbegun (homes_of c.args.files.now) (files_of (homes_of c.args.files.now)) c.args.seats.now (g.L.Loader.told c.args.loader.now) (g.L.Loader.given c.args.loader.now) (g.L.Loader.idle c.args.loader.now) (g.L.Loader.faults c.args.loader.now) (g.L.Loader.faults c.args.loader.now) c.args.counts.now (g.L.Loader.ended c.args.loader.now) (g.L.Loader.refused c.args.loader.now) end.OutOfMemory c.requires.fresh.1 c.requires.fresh.2 c.requires.none (omega arith) (λ calm. calm) tt

pub returns-in_default-vec-clause-ends : goal.returns-in_default-vec-clause-ends
returns-in_default-vec-clause-ends g c = ends_unbegun (homes_of c.args.files.now) (files_of (homes_of c.args.files.now)) c.args.seats.now (g.L.Loader.told c.args.loader.now) (g.L.Loader.given c.args.loader.now) (g.L.Loader.idle c.args.loader.now) (g.L.Loader.faults c.args.loader.now) (g.L.Loader.faults c.args.loader.now) c.args.counts.now (g.L.Loader.ended c.args.loader.now) (g.L.Loader.refused c.args.loader.now) end.OutOfMemory c.requires.fresh.1 c.requires.fresh.2 c.requires.none (omega arith) (λ calm. calm) tt

pub all_turns-requires-clause-begins : goal.all_turns-requires-clause-begins
all_turns-requires-clause-begins g c = begins _ _ _ _ _ _ _ _ _ (c.prepare.ensures.told ∙ c.requires.fresh.1) (c.prepare.ensures.given ∙ c.requires.fresh.2) c.requires.none
    (c.deref_mut.ensures.value ∙ c.in-Ok-vec.ensures.items_if_clones_equal (λ y e. e) ∙ ap (λ (n : ℕ). replicate n 0) (sym (homes_count c.args.files.now)))

pub returns-in-Failed-clause-ends : goal.returns-in-Failed-clause-ends
returns-in-Failed-clause-ends g c = ends_unbegun (homes_of c.args.files.now) (files_of (homes_of c.args.files.now)) c.args.seats.now (g.L.Loader.told c.prepare.new.self) (g.L.Loader.given c.prepare.new.self) (g.L.Loader.idle c.prepare.new.self) (g.L.Loader.faults c.args.loader.now) (g.L.Loader.faults c.prepare.new.self) c.args.counts.now (g.L.Loader.ended c.prepare.new.self) (g.L.Loader.refused c.prepare.new.self) end.Fault (c.prepare.ensures.told ∙ c.requires.fresh.1) (c.prepare.ensures.given ∙ c.requires.fresh.2) c.requires.none c.prepare.ensures.later (λ calm. calm) (inl c.in-Failed.ensures.cause)

pub returns-clause-ends : goal.returns-clause-ends
returns-clause-ends g c = ends_unbegun (homes_of c.args.files.now) (files_of (homes_of c.args.files.now)) c.args.seats.now (g.L.Loader.told c.prepare.new.self) (g.L.Loader.given c.prepare.new.self) (g.L.Loader.idle c.prepare.new.self) (g.L.Loader.faults c.args.loader.now) (g.L.Loader.faults c.prepare.new.self) c.args.counts.now (g.L.Loader.ended c.prepare.new.self) (g.L.Loader.refused c.prepare.new.self) end.OutOfMemory (c.prepare.ensures.told ∙ c.requires.fresh.1) (c.prepare.ensures.given ∙ c.requires.fresh.2) c.requires.none c.prepare.ensures.later (λ calm. calm) tt
