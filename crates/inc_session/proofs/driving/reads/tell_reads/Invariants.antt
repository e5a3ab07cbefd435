use Rattle.std.proofs.Common.{◌≡◌, ◌≤◌, ◌++◌, ◌+◌, take}
use Rattle.inc_session.proofs.driving.reads.tell_reads.Given as goal

abbrev pub invariant-loop-read : goal.invariant-loop-read
invariant-loop-read g l = record {
  told : g.L.Loader.told l.loader ≡ g.L.Loader.told l.initial.loader ++ take l.read-index l.reads;
  counted : l.counts ≡ record l.initial.counts { told = l.initial.counts.told + l.read-index };
  prepared : g.L.Loader.prepared l.loader ≡ g.L.Loader.prepared l.initial.loader;
  given : g.L.Loader.given l.loader ≡ g.L.Loader.given l.initial.loader;
  idle : g.L.Loader.idle l.initial.loader ≤ g.L.Loader.idle l.loader;
  faults : g.L.Loader.faults l.loader ≡ g.L.Loader.faults l.initial.loader;
}
