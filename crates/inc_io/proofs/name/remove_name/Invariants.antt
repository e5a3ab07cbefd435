use Rattle.std.proofs.Common.{◌≡◌, ◌-◌, ◌≤◌, ◌++◌, ◌||◌, length, take, drop}
use Rattle.std.specs.Prelude.{is_some, IfSome}
use Rattle.std.specs.List.{list_any}
use Rattle.std.specs.Str.{bytes_eq}
use Rattle.inc_io.specs.Names.{without}
use Rattle.inc_io.proofs.name.remove_name.Given as goal

abbrev pub invariant-loop-at : goal.invariant-loop-at
invariant-loop-at l = record {
  within : l.at ≤ length l.names;
  value : take l.at l.names ++ without l.name (drop l.at l.names) ≡ without l.name l.fn.names;
  found : (is_some l.removed || list_any (bytes_eq l.name) (drop l.at l.names)) ≡ list_any (bytes_eq l.name) l.fn.names;
  same : IfSome l.removed (λ removed. removed ≡ l.name);
}

abbrev pub decreases-loop-at : goal.decreases-loop-at
decreases-loop-at l = length l.names - l.at
