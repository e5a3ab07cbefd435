-- What a command is told of a name before it reads anything: the name's verdict. A file that keeps its id is read itself, a mapped name is
-- read over its original, and what has any other verdict is refused by that verdict's word.
use Rattle.std.specs.Prelude.{◌≡◌, ◌⊎◌, ℕ, Bool, List, Option, Some, None}
use Rattle.std.specs.FinMap.{get}
use Rattle.inc_io.specs.Contents.{Contents}
use Rattle.inc_mapped.specs.Mapping.{Mapping}
use Rattle.inc_layout.specs.declared.fault.LayoutFault.TheVariants as layout
use Rattle.inc_volume.specs.Verdicts.{KeepsId, MapsInto, holder_of, verdict_of}
use Rattle.inc_volume.specs.declared.holder.Holder.{Holder}
use Rattle.inc_volume.specs.declared.verdict.Verdict.{Verdict}
use Rattle.inc_volume.specs.declared.verdict.Verdict.TheVariants as verdict
use Rattle.inc_words.specs.Endings.{Ending, refused, refused_by}
use Rattle.inc_words.specs.Refusals.{layout_word, missing, no_original, past_original, same_id}

-- by the verdict, what a refusal comes to, what is answered of the file itself, and what of a part of a file with this id
abbrev pub by_verdict : {T : Type 0} → List ℕ → (Ending → T) → T → (List ℕ → Mapping → T) → Option Verdict → T
by_verdict name refusal own part None = refusal (refused name missing)
by_verdict name refusal own part (Some (verdict.Plain id complete)) = own
by_verdict name refusal own part (Some (verdict.Mapped original offset size)) = part original (record { offset = offset; size = size })
by_verdict name refusal own part (Some (verdict.SameId id)) = refusal (refused name same_id)
by_verdict name refusal own part (Some (verdict.NoOriginal original)) = refusal (refused name no_original)
by_verdict name refusal own part (Some (verdict.PastOriginal original)) = refusal (refused name past_original)
by_verdict name refusal own part (Some (verdict.Refused fault)) = refusal (refused_by name (layout_word fault))

-- of a command that takes no mapped name
abbrev pub refused_as_mapped : List ℕ → Ending
refused_as_mapped name = refused_by name (layout_word layout.Mapped)

-- the bytes of the file that keeps an id
abbrev pub bytes_of_holder : Contents → Option Holder → Option (List ℕ)
bytes_of_holder files None = None
bytes_of_holder files (Some holder) = get files holder.name

abbrev pub bytes_with_id : Contents → List ℕ → Option (List ℕ)
bytes_with_id files id = bytes_of_holder files (holder_of files id)

-- the name's verdict is that it shows this part of the file that keeps an id
abbrev pub IsMappedAs : Contents → List ℕ → List ℕ → Mapping → Type 0
IsMappedAs files name original mapping = Some (verdict.Mapped original mapping.offset mapping.size) ≡ verdict_of files name

-- ---- in words

-- the file under the name keeps its id, and this holds of its bytes
pub record HoldsOfFile (files : Contents) (name : List ℕ) (P : List ℕ → Type 0) : Type 0 where
  pub id : List ℕ
  pub complete : Bool
  pub keeps : KeepsId files name id complete
  pub bytes : List ℕ
  pub stored : get files name ≡ Some bytes
  pub holds : P bytes

-- the name is a part of the file that keeps an id and ends in it, and this holds of the part and of that file's bytes
pub record HoldsOfPart (files : Contents) (name : List ℕ) (P : Mapping → List ℕ → Type 0) : Type 0 where
  pub original : List ℕ
  pub offset : ℕ
  pub size : ℕ
  pub maps : MapsInto files name original offset size
  pub bytes : List ℕ
  pub stored : get files maps.holder.name ≡ Some bytes
  pub holds : P (record { offset = offset; size = size }) bytes

abbrev pub HoldsOfName : Contents → List ℕ → (Option Mapping → List ℕ → Type 0) → Type 0
HoldsOfName files name P = HoldsOfFile files name (P None) ⊎ HoldsOfPart files name (λ (mapping : Mapping). P (Some mapping))
