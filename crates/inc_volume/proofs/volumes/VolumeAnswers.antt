-- What a mount answers, by its plan and by what came of it.
use Rattle.std.proofs.Common.{◌≡◌, ℕ, List, [], Option, Some, None, Result, Ok, Err, refl, sym, ap, ◌∙◌, subst}
use Rattle.std.specs.Prelude.{IfSome, IfOk, IfErr, OnErr, option_map}
use Rattle.inc_disk.specs.Log.{Log, contents_of}
use Rattle.inc_io.specs.Contents.{Contents}
use Rattle.inc_volume.specs.mounting.MountRuns.{LeavesRuns}
use Rattle.inc_volume.specs.mounting.Planned.{result_targets}
use Rattle.inc_volume.specs.mounting.Targets.{GivesTarget, IsNoVerdict, files_for, target_files, targets_of}
use Rattle.inc_volume.specs.declared.mounting.refusal.MountRefusal.{MountRefusal}
use Rattle.inc_volume.specs.declared.mounting.refusal.MountRefusal.TheVariants.{Missing, Bad, Fault, OutOfMemory}
use Rattle.inc_volume.specs.declared.mounting.target.Target.{Target}
use Rattle.inc_volume.specs.declared.mounting.volume.Volume.{Volume}

module _ {D : Type 0} (log : Option Log) (names : List (List ℕ)) (targets : List Target) (result : Result (Volume D) MountRefusal) where
  pub mount_answers : (told : Option Contents) → told ≡ option_map contents_of log → IfSome told (λ files. targets_of files names ≡ Ok targets) → IfOk result (λ volume. volume.targets ≡ targets)
      → IfSome log (λ entries. IfErr result IsNoVerdict) → IfSome told (λ files. GivesTarget (result_targets result) (targets_of files names))
  mount_answers told told_is plan same only =
      subst (λ (t : Option Contents). IfSome t (λ files. GivesTarget (result_targets result) (targets_of files names))) (sym told_is)
      (by_log log (subst (λ (t : Option Contents). IfSome t (λ files. targets_of files names ≡ Ok targets)) told_is plan) only)
    where
      by_result : (files : Contents) (given : Result (Volume D) MountRefusal) → targets_of files names ≡ Ok targets → IfOk given (λ volume. volume.targets ≡ targets) → IfErr given IsNoVerdict
          → GivesTarget (result_targets given) (targets_of files names)
      by_result files (Ok volume) plan same only = plan ∙ ap (λ (t : List Target). Ok t) (sym same)
      by_result files (Err (Missing name)) plan same only = absurd only
      by_result files (Err (Bad name verdict)) plan same only = absurd only
      by_result files (Err Fault) plan same only = tt
      by_result files (Err OutOfMemory) plan same only = tt

      by_log : (entries : Option Log) → IfSome (option_map contents_of entries) (λ files. targets_of files names ≡ Ok targets) → IfSome entries (λ e. IfErr result IsNoVerdict)
          → IfSome (option_map contents_of entries) (λ files. GivesTarget (result_targets result) (targets_of files names))
      by_log None plan only = tt
      by_log (Some e) plan only = by_result (contents_of e) result plan same only

  pub mount_runs : (told : Option Contents) (after : Option Log) → told ≡ option_map contents_of log → IfSome told (λ files. targets_of files names ≡ Ok targets)
      → OnErr result (IfSome log (λ before. IfSome after (LeavesRuns (target_files targets) before)))
      → OnErr result (IfSome log (λ before. IfSome after (LeavesRuns (files_for (targets_of (contents_of before) names)) before)))
  mount_runs told after told_is plan runs = by_result result runs
    where
      by_log : (entries : Option Log) → IfSome (option_map contents_of entries) (λ files. targets_of files names ≡ Ok targets)
          → IfSome entries (λ before. IfSome after (LeavesRuns (target_files targets) before)) → IfSome entries (λ before. IfSome after (LeavesRuns (files_for (targets_of (contents_of before) names)) before))
      by_log None plan runs = tt
      by_log (Some before) plan runs =
          subst (λ (r : Result (List Target) MountRefusal). IfSome after (LeavesRuns (files_for r) before)) (sym plan) runs

      by_result : (given : Result (Volume D) MountRefusal) → OnErr given (IfSome log (λ before. IfSome after (LeavesRuns (target_files targets) before)))
          → OnErr given (IfSome log (λ before. IfSome after (LeavesRuns (files_for (targets_of (contents_of before) names)) before)))
      by_result (Ok volume) runs = tt
      by_result (Err refusal) runs = by_log log (subst (λ (t : Option Contents). IfSome t (λ files. targets_of files names ≡ Ok targets)) told_is plan) runs

  -- a refusal for what stands there never comes once the plan is made
  pub mount_unwritten : (P : Type 0) → IfSome log (λ entries. IfErr result IsNoVerdict) → IfSome log (λ entries. IfErr result (λ refusal. (IsNoVerdict refusal → ⊥) → P))
  mount_unwritten P only = by_log log only
    where
      by_result : (given : Result (Volume D) MountRefusal) → IfErr given IsNoVerdict → IfErr given (λ refusal. (IsNoVerdict refusal → ⊥) → P)
      by_result (Ok volume) only = tt
      by_result (Err refusal) only = λ other. absurd (other only)

      by_log : (entries : Option Log) → IfSome entries (λ e. IfErr result IsNoVerdict) → IfSome entries (λ e. IfErr result (λ refusal. (IsNoVerdict refusal → ⊥) → P))
      by_log None only = tt
      by_log (Some e) only = by_result result only

-- a plan that is refused leaves the shelf
pub no_runs : (before after : Option Log) (wanted : Log → List (List ℕ)) → after ≡ before → IfSome before (λ log. IfSome after (LeavesRuns (wanted log) log))
no_runs None after wanted same = tt
no_runs (Some log) after wanted same = rw same (record { runs = []; made = tt; differ = refl; within = λ name there. absurd (cc); after_is = refl })

pub left_alone : {P : Type 0} (log : Option Log) (refusal : MountRefusal) → P → IfSome log (λ entries. (IsNoVerdict refusal → ⊥) → P)
left_alone None refusal holds = tt
left_alone (Some entries) refusal holds = λ other. holds
