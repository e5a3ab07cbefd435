-- The report of a session: a line for each read of each reader, in the script's order, then one for each loader, then one for each mounted
-- plain file, and `end`.
use Rattle.std.specs.Prelude.{ℕ, zero, suc, ◌+◌, ◌++◌, Bool, if◌then◌else◌, List, [], ◌∷◌, flat_map, Result, Ok, Err, codes}
use Rattle.std.specs.Fmt.{decimal}
use Rattle.std.specs.List.{zip}
use Rattle.hex.specs.Hex.{encode_lower}
use Rattle.inc_model.specs.declared.words.outcomes.Found.{Found}
use Rattle.inc_model.specs.declared.words.outcomes.ReadError.{ReadError}
use Rattle.inc_model.specs.declared.words.outcomes.ReadError.TheVariants as read
use Rattle.inc_tree.specs.read_block.Path.{block_digest}
use Rattle.inc_tree.specs.read_block.Shown.{is_proved, shown_block, shown_len}
use Rattle.inc_script.specs.Limits.{reads_in}
use Rattle.inc_script.specs.Words.{fill_word, frame_word}
use Rattle.inc_script.specs.declared.report_text.ends.DriveEnd.{DriveEnd}
use Rattle.inc_script.specs.declared.report_text.ends.DriveEnd.TheVariants as end
use Rattle.inc_script.specs.declared.report_text.ends.FileLine.{FileLine}
use Rattle.inc_script.specs.declared.report_text.ends.LoaderLine.{LoaderLine}
use Rattle.inc_script.specs.declared.script.ReaderLine.{ReaderLine}
use Rattle.inc_script.specs.declared.script.Script.{Script}

-- ---- replies

-- ` at P`, the place of the read's last entry in the history
unfoldable pub at_place : ℕ → List ℕ
at_place at = codes " at " ++ decimal at

-- `ok` where the root vouches for the block, and `unproved` where its file has none
unfoldable pub shown_word : Bool → List ℕ
shown_word proved = if proved then codes "ok " else codes "unproved "

-- `ok LEN at P DIGEST`, with the digest of the whole block that was handed out
unfoldable pub found_text : Found → List ℕ
found_text found =
    shown_word (is_proved found.shown) ++ decimal (shown_len found.shown) ++ at_place found.at ++ 32 ∷ encode_lower (block_digest (shown_block found.shown))

unfoldable pub deadline_text : ℕ → ℕ → List ℕ
deadline_text deadline now = codes " deadline " ++ decimal deadline ++ codes " now " ++ decimal now

-- `timed-out serial S deadline D now N at P`
unfoldable pub late_text : ℕ → ℕ → ℕ → ℕ → List ℕ
late_text serial deadline now at = codes "timed-out serial " ++ decimal serial ++ deadline_text deadline now ++ at_place at

-- `path-absent H at P`
unfoldable pub no_path_text : ℕ → ℕ → List ℕ
no_path_text hash at = codes "path-absent " ++ decimal hash ++ at_place at

-- `corrupt level L wanted W got G at P`
unfoldable pub broken_text : ℕ → List ℕ → List ℕ → ℕ → List ℕ
broken_text level wanted got at = codes "corrupt level " ++ decimal level ++ codes " wanted " ++ encode_lower wanted ++ codes " got " ++ encode_lower got ++ at_place at

-- A read that found no memory isn't reported, and its row is never met.
unfoldable pub error_text : ReadError → List ℕ
error_text read.OutOfRange = codes "out-of-range"
error_text read.Damaged = codes "damaged"
error_text read.Compressed = codes "compressed"
error_text (read.TimedOut serial deadline now at) = late_text serial deadline now at
error_text (read.PathAbsent hash at) = no_path_text hash at
error_text (read.Corrupt level wanted got at) = broken_text level wanted got at
error_text read.ReadFault = codes "read-fault"
error_text (read.HistoryFull entries claimed) = codes "history-full"
error_text read.OutOfMemory = []

abbrev pub reply_text : Result Found ReadError → List ℕ
reply_text (Ok found) = found_text found
reply_text (Err error) = error_text error

-- `read K NAME INDEX REPLY`
unfoldable pub reply_line : ℕ → List ℕ → ℕ → Result Found ReadError → List ℕ
reply_line reader name index reply = codes "read " ++ decimal reader ++ 32 ∷ name ++ 32 ∷ decimal index ++ 32 ∷ reply_text reply ++ 10 ∷ []

-- as many numbers, one after the other
abbrev pub numbers_from : ℕ → ℕ → List ℕ
numbers_from first zero = []
numbers_from first (suc count) = first ∷ numbers_from (first + 1) count

-- the blocks of a reader's spans, one by one
abbrev pub indices_of : List (ℕ × ℕ) → List ℕ
indices_of spans = flat_map (λ span. numbers_from span.0 (reads_in span)) spans

abbrev pub reply_lines : ℕ → List ℕ → List ℕ → List (Result Found ReadError) → List ℕ
reply_lines reader name indices replies = flat_map (λ told. reply_line reader name told.0 told.1) (zip indices replies)

-- the readers from number `reader` on, each with the replies to its reads
abbrev pub reader_lines : ℕ → List ReaderLine → List (List (Result Found ReadError)) → List ℕ
reader_lines reader [] replies = []
reader_lines reader (line ∷ lines) [] = []
reader_lines reader (line ∷ lines) (here ∷ replies) = reply_lines reader line.name (indices_of line.blocks) here ++ reader_lines (reader + 1) lines replies

-- ---- loaders

unfoldable pub end_text : DriveEnd → List ℕ
end_text end.Done = codes "done"
end_text end.Stopped = codes "stopped"
end_text end.UnknownFile = codes "unknown-file"
end_text (end.Refused error) = codes "refused-" ++ fill_word error
end_text (end.Frame fault) = codes "frame-" ++ frame_word fault
end_text end.Fault = codes "fault"
end_text end.Failed = codes "failed"
end_text end.HistoryFull = codes "history-full"
end_text end.OutOfMemory = []

unfoldable pub told_text : ℕ → ℕ → List ℕ
told_text told written = codes " told " ++ decimal told ++ codes " written " ++ decimal written

unfoldable pub present_text : ℕ → ℕ → List ℕ
present_text present busy = codes " present " ++ decimal present ++ codes " busy " ++ decimal busy

-- `loader J END told T written W present P busy B`
unfoldable pub loader_line : ℕ → LoaderLine → List ℕ
loader_line loader line = codes "loader " ++ decimal loader ++ 32 ∷ end_text line.end ++ told_text line.told line.written ++ present_text line.present line.busy ++ 10 ∷ []

-- the loaders from number `loader` on
abbrev pub loader_lines : ℕ → List LoaderLine → List ℕ
loader_lines loader [] = []
loader_lines loader (line ∷ lines) = loader_line loader line ++ loader_lines (loader + 1) lines

-- ---- files

unfoldable pub filled_text : ℕ → ℕ → List ℕ
filled_text filled total = codes " filled " ++ decimal filled ++ codes " of " ++ decimal total

unfoldable pub log_text : ℕ → ℕ → List ℕ
log_text kept lost = codes " log " ++ decimal kept ++ codes " lost " ++ decimal lost

-- `file NAME entries E filled F of T log K lost L`
unfoldable pub file_line : FileLine → List ℕ
file_line file = codes "file " ++ file.name ++ codes " entries " ++ decimal file.entries ++ filled_text file.filled file.total ++ log_text file.kept file.lost ++ 10 ∷ []

-- ---- the whole

unfoldable pub last_line : List ℕ
last_line = codes "end\n"

abbrev pub report_of : Script → List (List (Result Found ReadError)) → List LoaderLine → List FileLine → List ℕ
report_of script replies loaders files = reader_lines 1 script.readers replies ++ loader_lines 1 loaders ++ flat_map file_line files ++ last_line
