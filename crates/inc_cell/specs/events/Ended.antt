-- The reads of a history that ended, in order, as the log has them: handed out, timed out, or without a path.
use Rattle.std.specs.Prelude.{ℕ, ◌+◌, List, [], ◌∷◌, ◌++◌, Option, Some, None}
use Rattle.inc_pending.specs.Polling.{read_of}
use Rattle.inc_pending.specs.declared.reads.ReadRow.{ReadRow}
use Rattle.inc_readlog.specs.declared.entry.LogEntry.{LogEntry}
use Rattle.inc_model.specs.relation.Step.{after_entry}
use Rattle.inc_model.specs.declared.words.event.Event.{Event}
use Rattle.inc_model.specs.declared.words.event.Event.TheVariants.{Poll}
use Rattle.inc_model.specs.declared.words.file_state.FileState.{FileState}
use Rattle.inc_model.specs.declared.words.reply.Entry.{Entry}
use Rattle.inc_model.specs.declared.words.reply.Reply.{Reply}
use Rattle.inc_model.specs.declared.words.reply.Reply.TheVariants.{Handed, NoPath, TimedOut}

-- a read that ended now
abbrev pub log_row : ReadRow → ℕ → ℕ → LogEntry
log_row row now kind = record { serial = row.serial; block = row.block; uid = row.uid; now = now; kind = kind }

abbrev pub ended_row : Option ReadRow → ℕ → ℕ → List LogEntry
ended_row None now kind = []
ended_row (Some row) now kind = log_row row now kind ∷ []

abbrev pub ended_poll : Option ReadRow → ℕ → Reply → List LogEntry
ended_poll row now (Handed digest) = ended_row row now 0
ended_poll row now (TimedOut deadline) = ended_row row now 1
ended_poll row now (NoPath hash) = ended_row row now 2
ended_poll row now reply = []

-- the read that an event ends in this state
abbrev pub ended_by : FileState → ℕ → Event → Reply → List LogEntry
ended_by s who (Poll serial now) reply = ended_poll (read_of who serial s.reads) now reply
ended_by s who event reply = []

abbrev pub ended_reads : ℕ → FileState → List Entry → List LogEntry
ended_reads at s [] = []
ended_reads at s (entry ∷ entries) = ended_by s entry.who entry.event entry.reply ++ ended_reads (at + 1) (after_entry at s entry) entries
