-- What is promised of a run of the program beside its text, a row a command.
use Rattle.std.specs.Prelude.{◌≡◌, ◌≢◌, ◌⊎◌, ℕ, ◌<◌, ◌≤◌, Bool, true, false, not, if◌then◌else◌, List, [], drop, Option, Some, None, IfSome, option_map, Result, Ok, Err}
use Rattle.inc_io.specs.Causes.{Rose}
use Rattle.inc_io.specs.Contents.{Contents}
use Rattle.inc_io.specs.Writing.{Appends, AppendsFront}
use Rattle.inc_disk.specs.Log.{Log}
use Rattle.inc_cmd.specs.Commands.{ShowsOf, VouchesOf, plain}
use Rattle.inc_cmd.specs.Commands.Big.{big_file, big_filled, big_fresh, big_pieces}
use Rattle.inc_cmd.specs.Commands.BigMoments.{AddsBig, IsBigMade, LeavesBig, SettlesBig}
use Rattle.inc_cmd.specs.Commands.Check.{AreAllProved}
use Rattle.inc_cmd.specs.Commands.Fill.{EndsFull}
use Rattle.inc_cmd.specs.Commands.Listing.{ListsNames}
use Rattle.inc_cmd.specs.Commands.Names.{HoldsOfName}
use Rattle.inc_mapped.specs.Mapping.{Mapping}
use Rattle.inc_cmd.specs.Commands.Make.{AddsOnly, IsMade, LeavesNew, most_taken, new_file}
use Rattle.inc_cmd.specs.Commands.FillMoments.{EndsSettled, ExtendsOnly, LeavesFilled, stream_pieces}
use Rattle.inc_words.specs.Endings.{Answer}
use Rattle.inc_words.specs.Command.{Command, Make, Fill, Big, Over, Listing, Misfit}
use Rattle.inc_words.specs.declared.outcome.CommandOutcome.{CommandOutcome}
use Rattle.inc_words.specs.declared.stop.Stop.{Stop}
use Rattle.inc_words.specs.declared.stop.Stop.TheVariants.{Fault, OutOfMemory}

-- ---- counts of faults

-- the count didn't rise, and doesn't stand at its end
abbrev pub IsQuiet : ℕ → ℕ → Type 0
IsQuiet before now = Rose before now → ⊥

-- a count never falls, and where it grew a status tells it that stands before or at that of a fault
pub record IsTold (before now status : ℕ) : Type 0 where
  pub later : before ≤ now
  pub told : before < now → (status ≡ 5) ⊎ (status ≡ 1) ⊎ (status ≡ 6)

-- ---- the output

-- a sink took all of a text with P
pub record Prints (before after : Option (List ℕ)) (P : List ℕ → Type 0) : Type 0 where
  pub text : List ℕ
  pub holds : P text
  pub sent : Appends before after text

-- status, text and what the shelf then tells are those of this answer
pub record IsAnswered (answer : Answer) (status : ℕ) (before after : Option (List ℕ)) (files : Option Contents) : Type 0 where
  pub status_is : status ≡ answer.status
  pub text_is : Appends before after answer.text
  pub after_is : files ≡ Some answer.after

-- ---- the shelf's and the input's bytes, where they are told

-- where both logs are told
abbrev pub IfLogs : Option Log → Option Log → (Log → Log → Type 0) → Type 0
IfLogs before after P = IfSome before (λ old. IfSome after (λ new. P old new))

-- ---- the input

-- a make of a signed file and a fill read it, and no other command does
abbrev pub reads_input : Command → Bool
reads_input (Make name size id unsigned) = not unsigned
reads_input (Fill name) = true
reads_input (Big name number size) = false
reads_input (Over name command) = false
reads_input Listing = false
reads_input (Misfit position) = false

-- what a command is given: nothing, where it reads nothing
abbrev pub given_to : Command → Option (List ℕ) → Option (List ℕ)
given_to command left = if reads_input command then left else Some []

-- where the shelf tells its files, and the input what the command is given
abbrev pub IfTold : Command → Option Contents → Option (List ℕ) → (Contents → List ℕ → Type 0) → Type 0
IfTold command files left P = IfSome files (λ stored. IfSome (given_to command left) (λ given. P stored given))

-- the run ends as the definition says
abbrev pub EndsAsPlain : Command → Option Contents → Option (List ℕ) → ℕ → Option (List ℕ) → Option (List ℕ) → Option Contents → Type 0
EndsAsPlain command files left status before after now = IfTold command files left (λ stored given. IsAnswered (plain command stored given) status before after now)

-- a front of the definition's text was written
abbrev pub PrintsFront : Command → Option Contents → Option (List ℕ) → Option (List ℕ) → Option (List ℕ) → Type 0
PrintsFront command files left before after = IfTold command files left (λ stored given. AppendsFront before after (plain command stored given).text)

-- some front of what was to come was taken
abbrev pub TakesSome : Option (List ℕ) → Option (List ℕ) → Type 0
TakesSome before after = (count : ℕ) × (after ≡ option_map (drop count) before)

-- at most so many bytes were taken
abbrev pub TakesFront : ℕ → Option (List ℕ) → Option (List ℕ) → Type 0
TakesFront most before after = (count : ℕ) × (count ≤ most) × (after ≡ option_map (drop count) before)

-- A make takes no more than a blob may be and one byte, a fill some front of its stream, and no other command anything.
abbrev pub TakesInput : Command → Option (List ℕ) → Option (List ℕ) → Type 0
TakesInput (Make name size id unsigned) before after = TakesFront most_taken before after
TakesInput (Fill name) before after = TakesSome before after
TakesInput (Big name number size) before after = after ≡ before
TakesInput (Over name command) before after = after ≡ before
TakesInput Listing before after = after ≡ before
TakesInput (Misfit position) before after = after ≡ before

-- what is left of it, whether it has ended, and its count
pub record KeepsInput (left_before left_now : Option (List ℕ)) (ended_before ended_now : Bool) (before now : ℕ) : Type 0 where
  pub left : left_now ≡ left_before
  pub end : ended_now ≡ ended_before
  pub count : now ≡ before

-- ---- statuses

abbrev pub status_of : Result CommandOutcome Stop → ℕ
status_of (Ok outcome) = outcome.status.0
status_of (Err Fault) = 5
status_of (Err OutOfMemory) = 6

-- status 1 comes exactly where the words fit no command, but for want of memory
abbrev pub WordsAreTold : Command → ℕ → Type 0
WordsAreTold (Misfit position) status = (status ≡ 1) ⊎ (status ≡ 6)
WordsAreTold (Make name size id unsigned) status = status ≢ 1
WordsAreTold (Fill name) status = status ≢ 1
WordsAreTold (Big name number size) status = status ≢ 1
WordsAreTold (Over name command) status = status ≢ 1
WordsAreTold Listing status = status ≢ 1

-- the shelf failed, or the input of a command that reads it
abbrev pub HasFailed : Command → ℕ → ℕ → ℕ → ℕ → Type 0
HasFailed command before now input_before input_now = Rose before now ⊎ ((reads_input command ≡ true) × Rose input_before input_now)

-- a call on shelf and input: a fault comes only where a count rose, and else both counts stay
pub record HasCauseIn {T : Type 0} (command : Command) (before now input_before input_now : ℕ) (result : Result T Stop) : Type 0 where
  pub later : before ≤ now
  pub input_later : input_before ≤ input_now
  pub failed : result ≡ Err Fault → HasFailed command before now input_before input_now
  pub kept : result ≢ Err Fault → now ≡ before
  pub input_kept : result ≢ Err Fault → input_now ≡ input_before

-- the same of a call that does one command
pub record HasEitherCause {T : Type 0} (before now input_before input_now : ℕ) (result : Result T Stop) : Type 0 where
  pub later : before ≤ now
  pub input_later : input_before ≤ input_now
  pub failed : result ≡ Err Fault → Rose before now ⊎ Rose input_before input_now
  pub kept : result ≢ Err Fault → now ≡ before
  pub input_kept : result ≢ Err Fault → input_now ≡ input_before

-- ---- the shelf

-- a command that only reads leaves it as it was
abbrev pub KeepsShelf : {K : Type 0} → Command → K → K → Type 0
KeepsShelf (Make name size id unsigned) before now = Unit {0}
KeepsShelf (Fill name) before now = Unit {0}
KeepsShelf (Big name number size) before now = Unit {0}
KeepsShelf (Over name command) before now = now ≡ before
KeepsShelf Listing before now = now ≡ before
KeepsShelf (Misfit position) before now = now ≡ before

-- which files a run may change
abbrev pub ChangesOnly : Command → Log → Log → Type 0
ChangesOnly (Make name size id unsigned) before after = AddsOnly name before after
ChangesOnly (Fill name) before after = ExtendsOnly name before after
ChangesOnly (Big name number size) before after = AddsBig name size before after
ChangesOnly (Over name command) before after = after ≡ before
ChangesOnly Listing before after = after ≡ before
ChangesOnly (Misfit position) before after = after ≡ before

-- what is left where the input failed, and where the command isn't done: a fill's pieces before that are in, by the moments below, and so is
-- what there is of a big file, unless its name or its size is refused
abbrev pub KeepsUndone : {K : Type 0} → Command → K → K → Type 0
KeepsUndone (Make name size id unsigned) before now = now ≡ before
KeepsUndone (Fill name) before now = Unit {0}
KeepsUndone (Big name number size) before now = Unit {0}
KeepsUndone (Over name command) before now = now ≡ before
KeepsUndone Listing before now = now ≡ before
KeepsUndone (Misfit position) before now = now ≡ before

-- What a crash at any moment of the run leaves. Of a make it hangs on what the input gives; of a fill only which pieces were put does. A big
-- file is made as by a make and then filled.
abbrev pub LeavesFiles : Command → Option (List ℕ) → Log → Log → Type 0
LeavesFiles (Make name size id unsigned) given before after = IfSome given (λ given. LeavesNew name (new_file size id unsigned given) before after)
LeavesFiles (Fill name) given before after = LeavesFilled name (stream_pieces given) before after
LeavesFiles (Big name number size) given before after = LeavesBig name (big_fresh number size) (big_pieces number size) before after
LeavesFiles (Over name command) given before after = after ≡ before
LeavesFiles Listing given before after = after ≡ before
LeavesFiles (Misfit position) given before after = after ≡ before

-- what a crash leaves of a run that wasn't stopped from outside: of a fill and of a big file all that is open
abbrev pub Settles : Command → Option (List ℕ) → Log → Log → Type 0
Settles (Make name size id unsigned) given before after = Unit {0}
Settles (Fill name) given before after = EndsSettled name (stream_pieces given) before after
Settles (Big name number size) given before after = SettlesBig name number size before after
Settles (Over name command) given before after = after ≡ before
Settles Listing given before after = after ≡ before
Settles (Misfit position) given before after = after ≡ before

-- what stands where a history is full: the file with at least so many pieces of the stream. No command but a fill has one: a history has
-- room for the largest generated content
abbrev pub HasFullHistory : Command → Option Contents → Option (List ℕ) → Option Contents → Type 0
HasFullHistory (Make name size id unsigned) files given now = ⊥
HasFullHistory (Fill name) files given now = IfSome files (λ files. IfSome given (λ given. EndsFull name files given now))
HasFullHistory (Big name number size) files given now = ⊥
HasFullHistory (Over name command) files given now = ⊥
HasFullHistory Listing files given now = ⊥
HasFullHistory (Misfit position) files given now = ⊥

-- what stands once status 0 is told
abbrev pub Made : Command → List ℕ → Log → Type 0
Made (Make name size id unsigned) given after = IsMade name (new_file size id unsigned given) after
Made (Fill name) given after = Unit {0}
Made (Big name number size) given after = IsBigMade name number size after
Made (Over name command) given after = Unit {0}
Made Listing given after = Unit {0}
Made (Misfit position) given after = ⊥

-- ---- what status 0 means

-- over the files: a make and a fill show no block; of a big file each block is proved against the root of its content; of a name it is what its
-- file holds, or the part of its original that it shows; a listing says of each name what stands there
abbrev pub Shows : Command → Contents → List ℕ → Type 0
Shows (Make name size id unsigned) files text = Unit {0}
Shows (Fill name) files text = Unit {0}
Shows (Big name number size) files text = AreAllProved (big_filled number size).bytes (Some (big_file number size).root) None
Shows (Over name command) files text = HoldsOfName files name (ShowsOf command text)
Shows Listing files text = ListsNames files text
Shows (Misfit position) files text = ⊥

-- whatever the shelf tells, also which names are mapped
abbrev pub Vouches : Command → List ℕ → Type 0
Vouches (Make name size id unsigned) text = Unit {0}
Vouches (Fill name) text = Unit {0}
Vouches (Big name number size) text = Unit {0}
Vouches (Over name command) text = (part : Option Mapping) × VouchesOf command part text
Vouches Listing text = Unit {0}
Vouches (Misfit position) text = ⊥
