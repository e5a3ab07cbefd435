use Rattle.std.proofs.Common.{◌≡◌, ◌++◌, length}
use Rattle.std.specs.List.{flat_map}
use Rattle.inc_volume.specs.Verdicts.{AreByFile}
use Rattle.inc_cmd.specs.Commands.Listing.{refusal_line, refused_of}
use Rattle.inc_cmd.proofs.commands.listing.refused_text.Given as goal

abbrev pub invariant-loop-rest : goal.invariant-loop-rest
invariant-loop-rest l = record {
  written : l.text.items ++ flat_map refusal_line (refused_of l.rest) ≡ flat_map refusal_line (refused_of l.rows);
  left : AreByFile l.rest;
}

abbrev pub decreases-loop-rest : goal.decreases-loop-rest
decreases-loop-rest l = length l.rest
