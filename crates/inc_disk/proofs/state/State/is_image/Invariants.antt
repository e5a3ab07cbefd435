use Rattle.std.proofs.Common.{◌≡◌, ℕ, ◌<◌, false, length, get_or}
use Rattle.inc_disk.specs.Disk.{is_dirty}
use Rattle.inc_disk.proofs.state.State.is_image.Given as goal

abbrev pub invariant-loop-at : goal.invariant-loop-at
invariant-loop-at l =
    (place : ℕ) → place < l.at → is_dirty l.self.dirty place ≡ false → (place < length l.self.synced) × (get_or l.image place 0 ≡ get_or l.self.synced place 0)
