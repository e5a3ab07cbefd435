use Rattle.std.proofs.Common.{◌≡◌, ◌++◌, drop}
use Rattle.std.specs.Prelude.{flat_map}
use Rattle.inc_script.specs.Report.{file_line}
use Rattle.inc_script.proofs.report_text.push_files.Given as goal

abbrev pub invariant-loop-file : goal.invariant-loop-file
invariant-loop-file l = l.text.items ++ flat_map file_line (drop l.file-index l.files) ≡ l.fn.text.items ++ flat_map file_line l.files
