-- What is told of a file is told by the file alone.
use Rattle.std.proofs.Common.{ℕ, ◌+◌, nat_le, Bool, true, false, if◌then◌else◌, List, [], ◌∷◌, ◌++◌, Option, Some, None}
use Rattle.std.specs.Str.{bytes_eq}
use Rattle.inc_volume.specs.Standings.{HasFileFault, HaveFileFaults}
use Rattle.inc_volume.specs.Verdicts.{AreByFile, IsByFile, judged_rows, part_verdict, plain_verdict, verdict_with}
use Rattle.inc_volume.specs.declared.holder.Holder.{Holder}
use Rattle.inc_volume.specs.declared.standing.Standing.{Standing}
use Rattle.inc_volume.specs.declared.standing.Standing.TheVariants as standing
use Rattle.inc_volume.specs.declared.verdict.Verdict.TheVariants as verdict

pub standings_with : (rows : List (List ℕ × Standing)) (row : List ℕ × Standing) → HaveFileFaults rows → HasFileFault row.1 → HaveFileFaults (rows ++ row ∷ [])
standings_with [] row before here = (here, tt)
standings_with (other ∷ rows) row before here = (before.0, standings_with rows row before.1 here)

-- a verdict has no fault but that of its file
own_plain : (name id : List ℕ) (complete : Bool) (holder : Option Holder) → IsByFile (plain_verdict name id complete holder)
own_plain name id complete None = tt
own_plain name id complete (Some holder) =
    elim (bytes_eq holder.name name) as (λ b. IsByFile (if b then verdict.Plain id complete else verdict.SameId id)) [
      | true ↦ tt
      | false ↦ tt
    ]

own_part : (original : List ℕ) (offset size : ℕ) (holder : Option Holder) → IsByFile (part_verdict original offset size holder)
own_part original offset size None = tt
own_part original offset size (Some holder) =
    elim (nat_le (offset + size) holder.size) as (λ b. IsByFile (if b then verdict.Mapped original offset size else verdict.PastOriginal original)) [
      | true ↦ tt
      | false ↦ tt
    ]

own_verdict : (holder : List ℕ → Option Holder) (name : List ℕ) (found : Standing) → HasFileFault found → IsByFile (verdict_with holder name found)
own_verdict holder name (standing.Plain id size complete) own = own_plain name id complete (holder id)
own_verdict holder name (standing.Part original offset size) own = own_part original offset size (holder original)
own_verdict holder name (standing.Refused fault) own = own

pub own_judged : (holder : List ℕ → Option Holder) (rows : List (List ℕ × Standing)) → HaveFileFaults rows → AreByFile (judged_rows holder rows)
own_judged holder [] own = tt
own_judged holder (row ∷ rows) own = (own_verdict holder row.0 row.1 own.0, own_judged holder rows own.1)
