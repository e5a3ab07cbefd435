-- The word of a fault is its name in small letters with dashes. Want of memory has no word, since nothing is refused by it.
use Rattle.std.specs.Prelude.{ℕ, List, [], codes}
use Rattle.inc_frame.specs.declared.fault.FrameFault.{FrameFault}
use Rattle.inc_frame.specs.declared.fault.FrameFault.TheVariants as frame
use Rattle.inc_model.specs.declared.words.outcomes.FillError.{FillError}
use Rattle.inc_model.specs.declared.words.outcomes.FillError.TheVariants as fill
use Rattle.inc_script.specs.declared.script.ScriptFault.{ScriptFault}
use Rattle.inc_script.specs.declared.script.ScriptFault.TheVariants as script

unfoldable pub script_word : ScriptFault → List ℕ
script_word script.TooLong = codes "too-long"
script_word (script.BadLine line) = codes "bad-line"
script_word (script.TooMany line) = codes "too-many"
script_word (script.NoEnd line) = codes "no-end"
script_word script.OutOfMemory = []

unfoldable pub frame_word : FrameFault → List ℕ
frame_word (frame.BadHello at) = codes "bad-hello"
frame_word (frame.BadKind at) = codes "bad-kind"
frame_word (frame.BadLength at) = codes "bad-length"
frame_word (frame.Cut at) = codes "cut"
frame_word (frame.TooLong at) = codes "too-long"
frame_word frame.OutOfMemory = []

unfoldable pub fill_word : FillError → List ℕ
fill_word fill.NoPermission = codes "no-permission"
fill_word (fill.OutOfRange piece) = codes "out-of-range"
fill_word (fill.Compressed piece) = codes "compressed"
fill_word (fill.BadLength piece) = codes "bad-length"
fill_word (fill.Damaged piece) = codes "damaged"
fill_word fill.OutOfMemory = []
fill_word (fill.HistoryFull entries claimed) = codes "history-full"
fill_word (fill.Failed at) = codes "failed"
fill_word (fill.DiskFault done) = codes "disk-fault"
