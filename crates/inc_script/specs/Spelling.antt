-- The grammar of a script, said of a text and what it spells. The text's lines spell the script's `timeouts` lines and its readers, each of
-- both in order, and then its end. Lines that say nothing may stand anywhere, and behind the end only such lines stand.
use Rattle.std.specs.Prelude.{◌≡◌, ℕ, zero, suc, ◌-◌, ◌^◌, ◌<◌, ◌≤◌, ◌⊎◌, ◌++◌, List, [], ◌∷◌, length, Some}
use Rattle.std.specs.List.{AllByRecursion}
use Rattle.inc_io.specs.Names.{IsName}
use Rattle.inc_script.specs.Forms.{end_word, reader_word, timeouts_word}
use Rattle.inc_script.specs.Limits.{all_reads}
use Rattle.inc_script.specs.Lines.{lines_of}
use Rattle.inc_bytes.specs.Decimals.{numeral_of}
use Rattle.inc_script.specs.declared.script.ReaderLine.{ReaderLine}
use Rattle.inc_script.specs.declared.script.Script.{Script}
use Rattle.inc_script.specs.declared.script.TheConstants.{MOST_READERS, MOST_READS, MOST_TEXT, MOST_TIMES}
use Rattle.inc_script.specs.declared.script.TimesLine.{TimesLine}

-- ---- words

abbrev pub spaces : ℕ → List ℕ
spaces zero = []
spaces (suc count) = 32 ∷ spaces count

-- the line is these words, with one or more spaces between two
abbrev pub IsSpaced : List (List ℕ) → List ℕ → Type 0
IsSpaced [] line = ⊥
IsSpaced (word ∷ words) line = ((words ≡ []) × (line ≡ word)) ⊎ ((more : ℕ) × (rest : List ℕ) × (line ≡ word ++ 32 ∷ (spaces more ++ rest)) × IsSpaced words rest)

-- decimal digits of a number of 32 bits, and of 64
abbrev pub SpellsNumber : List ℕ → ℕ → Type 0
SpellsNumber word number = numeral_of (2 ^ 32 - 1) word ≡ Some number

abbrev pub SpellsTime : List ℕ → ℕ → Type 0
SpellsTime word time = numeral_of (2 ^ 64 - 1) word ≡ Some time

-- two numbers with a dash between them, the first at most the second
pub record SpellsDashed (word : List ℕ) (span : ℕ × ℕ) : Type 0 where
  pub first : List ℕ
  pub last : List ℕ
  pub dashed : word ≡ first ++ 45 ∷ last
  pub first_is : SpellsNumber first span.0
  pub last_is : SpellsNumber last span.1
  pub rising : span.0 ≤ span.1

-- a block, or the first and the last block of a span
abbrev pub SpellsSpan : List ℕ → ℕ × ℕ → Type 0
SpellsSpan word span = (SpellsNumber word span.0 × (span.1 ≡ span.0)) ⊎ SpellsDashed word span

abbrev pub SpellSpans : List (List ℕ) → List (ℕ × ℕ) → Type 0
SpellSpans [] [] = Unit {0}
SpellSpans [] (span ∷ spans) = ⊥
SpellSpans (word ∷ words) [] = ⊥
SpellSpans (word ∷ words) (span ∷ spans) = SpellsSpan word span × SpellSpans words spans

-- ---- lines

-- an empty line, or one that begins with `#`
abbrev pub SaysNothing : List ℕ → Type 0
SaysNothing line = (line ≡ []) ⊎ ((rest : List ℕ) × (line ≡ 35 ∷ rest))

-- `timeouts NAME UID A B C`
pub record SpellsTimes (line : List ℕ) (times : TimesLine) : Type 0 where
  pub uid : List ℕ
  pub first : List ℕ
  pub second : List ℕ
  pub third : List ℕ
  pub words : IsSpaced (timeouts_word ∷ times.name ∷ uid ∷ first ∷ second ∷ third ∷ []) line
  pub name_is : IsName times.name
  pub uid_is : SpellsNumber uid times.uid
  pub first_is : SpellsTime first times.times.least_read
  pub second_is : SpellsTime second times.times.least_pending
  pub third_is : SpellsTime third times.times.most_pending

-- `reader UID NAME SPECS`, with one or more SPECS
pub record SpellsReader (line : List ℕ) (reader : ReaderLine) : Type 0 where
  pub uid : List ℕ
  pub specs : List (List ℕ)
  pub words : IsSpaced (reader_word ∷ uid ∷ reader.name ∷ specs) line
  pub uid_is : SpellsNumber uid reader.uid
  pub name_is : IsName reader.name
  pub blocks_are : SpellSpans specs reader.blocks
  pub some : 0 < length reader.blocks

abbrev pub SpellLines : List (List ℕ) → List TimesLine → List ReaderLine → Type 0
SpellLines [] times readers = ⊥
SpellLines (line ∷ lines) times readers =
    (SaysNothing line × SpellLines lines times readers)
    ⊎ (((first : TimesLine) × (rest : List TimesLine) × (times ≡ first ∷ rest) × SpellsTimes line first × SpellLines lines rest readers)
    ⊎ (((first : ReaderLine) × (rest : List ReaderLine) × (readers ≡ first ∷ rest) × SpellsReader line first × SpellLines lines times rest)
    ⊎ ((times ≡ []) × (readers ≡ []) × (line ≡ end_word) × AllByRecursion SaysNothing lines)))

-- ---- a script and its text

-- not more of anything than may be
pub record IsWithinLimits (script : Script) : Type 0 where
  pub few_times : length script.times ≤ MOST_TIMES
  pub few_readers : length script.readers ≤ MOST_READERS
  pub few_reads : all_reads script.readers ≤ MOST_READS

pub record IsSpelled (text : List ℕ) (script : Script) : Type 0 where
  pub short : length text ≤ MOST_TEXT
  pub limits : IsWithinLimits script
  pub lines : SpellLines (lines_of text) script.times script.readers
