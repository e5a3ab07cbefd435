use Rattle.std.proofs.Common.{◌≡◌, ◌≤◌, take}
use Rattle.std.specs.Prelude.{All}
use Rattle.inc_loader.specs.declared.loader_file.LoaderFile.{LoaderFile}
use Rattle.inc_tree.specs.shape.Limits.{most_size}
use Rattle.inc_session.specs.DriveSeats.{files_of, homes_of}
use Rattle.inc_session.proofs.driving.whole.known_files.Given as goal

abbrev pub invariant-loop-file : goal.invariant-loop-file
invariant-loop-file g l = record {
  value : l.known.items ≡ files_of (homes_of (take l.file-index l.files));
  sized : All (λ (file : LoaderFile). file.size ≤ most_size) l.known.items;
}
