use Rattle.std.proofs.Common.{◌∙◌, refl, sym}
use Rattle.inc_volume.proofs.volumes.Differing.{all_added, once_within}
use Rattle.inc_volume.proofs.volumes.MountedCells.{back_cause, none_mounted}
use Rattle.inc_volume.proofs.volumes.OpenSteps.{first_and_rest, left_added, left_planned, left_within, next_planned, next_within, none_left}
use Rattle.inc_volume.proofs.volumes.RunsLeft.{leaves_runs}
use Rattle.inc_volume.proofs.mounting.open_files.Goals as goal

pub loop-rest-init : goal.loop-rest-init
loop-rest-init g c = record {
  each = rw c.new-cells.ensures.items (all_added _);
  mounted = rw c.new-cells.ensures.items (none_mounted _ _ _ _ c.requires.none_out);
  planned = c.requires.planned;
  within = rw c.new-cells.ensures.items (λ name e. absurd (cc));
  coming = λ name e. e;
  kept = refl;
  quiet = refl;
}

pub mount_once-requires : goal.mount_once-requires
mount_once-requires g c = record {
  mounted = rw c.loop-rest.invariant.kept c.loop-rest.invariant.mounted;
  planned = rw c.loop-rest.invariant.kept
      (next_planned _ _ c.target-item.result (first_and_rest _ c.target-item.result c.in-len1-up.len_at_least c.target-item.is) c.loop-rest.invariant.planned);
}

pub loop-rest-preserved : goal.loop-rest-preserved
loop-rest-preserved g c = record {
  each = rw c.in-Ok.ensures.added
      (left_added _ c.target-item.result _ (first_and_rest _ c.target-item.result c.in-len1-up.len_at_least c.target-item.is) ∙ c.loop-rest.invariant.each);
  mounted = rw c.loop-rest.invariant.kept at c.in-Ok.ensures.mounted;
  planned = left_planned _ _ c.loop-rest.invariant.planned;
  within = rw c.in-Ok.ensures.added
      (once_within c.target-item.result.file _ _ c.loop-rest.invariant.within
      (next_within _ c.target-item.result _ (first_and_rest _ c.target-item.result c.in-len1-up.len_at_least c.target-item.is) c.loop-rest.invariant.coming));
  coming = left_within _ _ c.loop-rest.invariant.coming;
  kept = c.in-Ok.ensures.kept ∙ c.loop-rest.invariant.kept;
  quiet = c.in-Ok.ensures.cause.kept (λ e. absurd (cc)) ∙ c.loop-rest.invariant.quiet;
}

pub give_back-requires : goal.give_back-requires
give_back-requires g c = record {
  distinct = rw c.in-Err.ensures.same c.loop-rest.invariant.mounted.names;
  out = rw (c.in-Err.ensures.same, c.in-Err.ensures.back) c.loop-rest.invariant.mounted.out_is;
}

pub returns-in-Err-clause-runs : goal.returns-in-Err-clause-runs
returns-in-Err-clause-runs g c =
    leaves_runs _ _ _ _ _ _ c.target-item.result.file _ _ c.loop-rest.invariant.mounted c.in-Err.ensures.new
    (next_within _ c.target-item.result _ (first_and_rest _ c.target-item.result c.in-len1-up.len_at_least c.target-item.is) c.loop-rest.invariant.coming)
    c.loop-rest.invariant.within (rw c.loop-rest.invariant.kept at c.in-Err.ensures.run) (rw c.in-Err.ensures.same at c.give_back.ensures.logged)

pub returns-in-Err-clause-only : goal.returns-in-Err-clause-only
returns-in-Err-clause-only g c = rw c.loop-rest.invariant.kept at c.in-Err.ensures.only

pub returns-in-Err-clause-cause : goal.returns-in-Err-clause-cause
returns-in-Err-clause-cause g c =
    back_cause _ _ _ _ _ _ _ _ c.in-Err.refusal c.loop-rest.invariant.mounted (rw c.loop-rest.invariant.quiet at c.in-Err.ensures.cause)
    (rw c.in-Err.ensures.same at c.give_back.ensures.cause)

pub returns-clause-each : goal.returns-clause-each
returns-clause-each g c = sym (none_left _ _ c.in_default.len_below) ∙ c.loop-rest.invariant.each
