-- What a command answers over the files that stand on the shelf and the bytes that the input gives it.
use Rattle.std.specs.Prelude.{ℕ, List, Option, Some, None, Result, Ok, Err}
use Rattle.std.specs.FinMap.{get}
use Rattle.inc_io.specs.Contents.{Contents}
use Rattle.inc_mapped.specs.Mapping.{Mapping}
use Rattle.inc_layout.specs.Backing.{laid_of}
use Rattle.inc_layout.specs.declared.fault.LayoutFault.{LayoutFault}
use Rattle.inc_layout.specs.declared.opened.Layout.{Layout}
use Rattle.inc_volume.specs.Verdicts.{verdict_of}
use Rattle.inc_volume.specs.declared.verdict.Verdict.{Verdict}
use Rattle.inc_cmd.specs.Commands.Big.{big_answer}
use Rattle.inc_cmd.specs.Commands.Check.{AreAllProved, check_ending, check_laid}
use Rattle.inc_cmd.specs.Commands.Fill.{fill_answer}
use Rattle.inc_cmd.specs.Commands.Inspect.{inspect_ending, mapping_line}
use Rattle.inc_cmd.specs.Commands.Listing.{list_ending}
use Rattle.inc_cmd.specs.Commands.Make.{make_answer}
use Rattle.inc_cmd.specs.Commands.Names.{by_verdict, bytes_with_id, refused_as_mapped}
use Rattle.inc_cmd.specs.Commands.Ranges.{ShowsRanges, ranges_ending}
use Rattle.inc_cmd.specs.Commands.Read.{ShowsBlock, VouchesRead, read_ending, shown_in}
use Rattle.inc_words.specs.Endings.{Answer, Ending, done, leaving, misfit, refused, refused_by}
use Rattle.inc_words.specs.Refusals.{layout_word, missing, no_original}
use Rattle.inc_words.specs.Command as words
use Rattle.inc_words.specs.Command.{Command}
use Rattle.inc_words.specs.declared.words.FileCommand.{FileCommand}
use Rattle.inc_words.specs.declared.words.FileCommand.TheVariants as file
pub mod Big
pub mod BigMoments
pub mod Check
pub mod Fill
pub mod FillMoments
pub mod Inspect
pub mod Listing
pub mod Make
pub mod Names
pub mod Parts
pub mod Ranges
pub mod Read

-- ---- the commands over one file that only read

-- over the bytes of a file that keeps its id
abbrev pub file_ending : FileCommand → List ℕ → List ℕ → Ending
file_ending (file.Read index root unproved) name bytes = read_ending name index root unproved bytes
file_ending (file.Check root) name bytes = check_ending name root bytes
file_ending file.Inspect name bytes = inspect_ending name bytes
file_ending (file.Ranges start end room) name bytes = ranges_ending name start end room bytes

abbrev pub stored_ending : FileCommand → List ℕ → Option (List ℕ) → Ending
stored_ending command name None = refused name missing
stored_ending command name (Some bytes) = file_ending command name bytes

-- over the bytes of the original of a mapped name, where this is its layout
abbrev pub part_ending : FileCommand → List ℕ → List ℕ → Mapping → List ℕ → Layout → Ending
part_ending (file.Read index root unproved) name original mapping bytes layout = shown_in name index root unproved bytes layout (Some mapping)
part_ending (file.Check root) name original mapping bytes layout = check_laid name root bytes layout (Some mapping)
part_ending file.Inspect name original mapping bytes layout = done (mapping_line mapping original)
part_ending (file.Ranges start end room) name original mapping bytes layout = refused_as_mapped name

abbrev pub part_laid_as : FileCommand → List ℕ → List ℕ → Mapping → List ℕ → Result Layout LayoutFault → Ending
part_laid_as command name original mapping bytes (Ok layout) = part_ending command name original mapping bytes layout
part_laid_as command name original mapping bytes (Err fault) = refused_by name (layout_word fault)

abbrev pub original_ending : FileCommand → List ℕ → List ℕ → Mapping → Option (List ℕ) → Ending
original_ending command name original mapping None = refused name no_original
original_ending command name original mapping (Some bytes) = part_laid_as command name original mapping bytes (laid_of bytes)

-- by the verdict of the name
abbrev pub judged_ending : FileCommand → List ℕ → Contents → Option Verdict → Ending
judged_ending command name files found =
    by_verdict name (λ (ending : Ending). ending) (stored_ending command name (get files name))
    (λ (original : List ℕ) (mapping : Mapping). original_ending command name original mapping (bytes_with_id files original)) found

abbrev pub named_ending : FileCommand → List ℕ → Contents → Ending
named_ending command name files = judged_ending command name files (verdict_of files name)

-- what status 0 means over the file's bytes, of which the name shows all or a part: what is shown of a block is the file's, and proved or
-- marked; in a checked file each block that the name shows is proved; and ranges are those of the blocks that are there
abbrev pub ShowsOf : FileCommand → List ℕ → Option Mapping → List ℕ → Type 0
ShowsOf (file.Read index root unproved) text part bytes = ShowsBlock bytes index root unproved part text
ShowsOf (file.Check root) text part bytes = AreAllProved bytes root part
ShowsOf file.Inspect text part bytes = Unit {0}
ShowsOf (file.Ranges start end room) text None bytes = ShowsRanges bytes start end room text
ShowsOf (file.Ranges start end room) text (Some mapping) bytes = ⊥

-- and whatever the file tells: a path leads from what is shown of a block to a root
abbrev pub VouchesOf : FileCommand → Option Mapping → List ℕ → Type 0
VouchesOf (file.Read index root unproved) part text = VouchesRead index root unproved part text
VouchesOf (file.Check root) part text = Unit {0}
VouchesOf file.Inspect part text = Unit {0}
VouchesOf (file.Ranges start end room) part text = Unit {0}

-- ---- all commands

abbrev pub plain : Command → Contents → List ℕ → Answer
plain (words.Make name size id unsigned) files given = make_answer name size id unsigned files given
plain (words.Fill name) files given = fill_answer name files given
plain (words.Big name number size) files given = big_answer name number size files
plain (words.Over name command) files given = leaving files (named_ending command name files)
plain words.Listing files given = leaving files (list_ending files)
plain (words.Misfit position) files given = leaving files (misfit position)
