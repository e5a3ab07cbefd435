use Rattle.std.proofs.Common.{◌≡◌, ◌*◌, length}
use Rattle.inc_entry.specs.Entry.{area_places}
use Rattle.inc_layout.specs.opening.Found.{HasFound}
use Rattle.inc_layout.proofs.opening.stored.read_digests.Given as goal

abbrev pub invariant-fours : goal.invariant-fours
invariant-fours g l = record {
  kept : g.B.Backing.kept l.file ≡ g.B.Backing.kept l.fn.file;
  quiet : g.B.Backing.faults l.file ≡ g.B.Backing.faults l.fn.file;
  rooms : length l.rooms.items ≡ 16384;
  found : HasFound (g.B.Backing.reads (g.B.Backing.kept l.fn.file)) (area_places l.areas) l.classes l.digests.items (4 * l.four);
}

abbrev pub invariant-last : goal.invariant-last
invariant-last g l = record {
  kept : g.B.Backing.kept l.file ≡ g.B.Backing.kept l.fn.file;
  quiet : g.B.Backing.faults l.file ≡ g.B.Backing.faults l.fn.file;
  rooms : length l.rooms.items ≡ 16384;
  found : HasFound (g.B.Backing.reads (g.B.Backing.kept l.fn.file)) (area_places l.areas) l.classes l.digests.items l.index;
}
