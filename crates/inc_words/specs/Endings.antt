-- What a command ends with: its exit status and its text.
--
--     0   the command is done, and every read that it made answered bytes
--     1   the words fit no command
--     2   a stream is refused
--     3   the named file is missing, refused or there already, or it refuses a piece of a fill
--     4   a block can't be shown, or a check found one
--     5   the shelf, a file, the input or the output failed
--     6   out of memory
--     7   a history is full
--
-- Only a fill ends with 2 or 7, and at 7 it prints nothing.
use Rattle.std.specs.Prelude.{◌≡◌, ℕ, List, [], Option, Some, None, Result, Ok, Err}
use Rattle.inc_io.specs.Contents.{Contents}
use Rattle.inc_words.specs.Texts.{block_line, refused_line, stream_line, words_line}
use Rattle.inc_words.specs.declared.outcome.CommandOutcome.{CommandOutcome}
use Rattle.inc_words.specs.declared.stop.Stop.{Stop}
use Rattle.inc_words.specs.declared.stop.Stop.TheVariants.{Fault, OutOfMemory}

pub record Ending : Type 0 where
  pub status : ℕ
  pub text : List ℕ

abbrev pub done : List ℕ → Ending
done text = record { status = 0; text = text }

abbrev pub misfit : ℕ → Ending
misfit position = record { status = 1; text = words_line position }

-- by this word, at this place of the stream
abbrev pub stream_refused : List ℕ → ℕ → Ending
stream_refused word place = record { status = 2; text = stream_line word place }

abbrev pub refused : List ℕ → List ℕ → Ending
refused name word = record { status = 3; text = refused_line name word }

abbrev pub not_shown : ℕ → List ℕ → Ending
not_shown index reason = record { status = 4; text = block_line index reason }

-- what stops a command from outside has no text
abbrev pub stopped : Stop → Ending
stopped Fault = record { status = 5; text = [] }
stopped OutOfMemory = record { status = 6; text = [] }

-- by what a fault of a file or a block is: a word, or none
abbrev pub refused_by : List ℕ → Result (List ℕ) Stop → Ending
refused_by name (Ok word) = refused name word
refused_by name (Err stop) = stopped stop

abbrev pub not_shown_by : ℕ → Result (List ℕ) Stop → Ending
not_shown_by index (Ok reason) = not_shown index reason
not_shown_by index (Err stop) = stopped stop

-- a word refuses the name before anything else is said of it
abbrev pub unless_refused : List ℕ → Option (List ℕ) → Ending → Ending
unless_refused name None ending = ending
unless_refused name (Some word) ending = refused name word

-- status and text are those of this ending
pub record EndsAs (ending : Ending) (outcome : CommandOutcome) : Type 0 where
  pub status_is : outcome.status.0 ≡ ending.status
  pub text_is : outcome.text.items ≡ ending.text

-- ---- with the files that stand afterwards

pub record Answer : Type 0 where
  pub status : ℕ
  pub text : List ℕ
  pub after : Contents

-- the files stay
abbrev pub leaving : Contents → Ending → Answer
leaving files ending = record { status = ending.status; text = ending.text; after = files }

-- an outcome, and what the shelf then tells
pub record AnswersAs (answer : Answer) (outcome : CommandOutcome) (after : Option Contents) : Type 0 where
  pub status_is : outcome.status.0 ≡ answer.status
  pub text_is : outcome.text.items ≡ answer.text
  pub after_is : after ≡ Some answer.after
