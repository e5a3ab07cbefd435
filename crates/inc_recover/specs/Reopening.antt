-- What a mount makes of the state of a file that crashes have kept: its own state is a reopening of that one.
use Rattle.std.specs.Prelude.{◌^◌, ◌≤◌, List, length, Result, IfOk, IfErr}
use Rattle.inc_disk.specs.Disk.{DiskState, Now}
use Rattle.inc_disk.specs.Laws.{EachImage, LeavesOnly}
use Rattle.inc_layout.specs.state.Preserves.{MayReopen, Preserves}
use Rattle.inc_layout.specs.state.Reopening.{AreApartIn, AreOpened}
use Rattle.inc_layout.specs.state.State.{StateParts}
use Rattle.inc_layout.specs.declared.fault.LayoutFault.TheVariants.{ReadFault}
use Rattle.inc_layout.specs.declared.opened.Opened.{Opened}
use Rattle.inc_recover.specs.declared.fault.MountFault.{MountFault}
use Rattle.inc_recover.specs.declared.fault.MountFault.TheVariants.{Layout, DiskFault, OutOfMemory}

-- the device failed, or memory: the file itself is not refused
abbrev pub IsOutsideFault : MountFault → Type 0
IsOutsideFault (Layout ReadFault) = Unit {0}
IsOutsideFault (Layout fault) = ⊥
IsOutsideFault DiskFault = Unit {0}
IsOutsideFault OutOfMemory = Unit {0}

-- where all that a crash may leave keeps the state of a file
pub record KeepsState (old new : List DiskState) (result : Result Opened MountFault) (parts : StateParts) : Type 0 where
  -- it goes on so at any moment of the call
  pub moments : LeavesOnly old new (λ image. Preserves image parts)
  -- the file that is mounted has a state that is a reopening of it, and keeps that one
  pub reopened : Now old (λ disk. IfOk result (λ opened. (after : StateParts) → AreOpened opened after → MayReopen parts after))
  pub kept : IfOk result (λ opened. (after : StateParts) → AreOpened opened after → Now new (λ disk. EachImage disk (λ image. Preserves image after)))
  -- a file that isn't too long is mounted, unless the device fails or memory is wanting
  pub accepted : Now old (λ disk. length disk.reads ≤ 2 ^ 46 → IfErr result IsOutsideFault)

abbrev pub Reopens : List DiskState → List DiskState → Result Opened MountFault → Type 0
Reopens old new result =
    (parts : StateParts) → AreApartIn parts → Now old (λ disk. EachImage disk (λ image. Preserves image parts)) → KeepsState old new result parts
