-- A script written out: one line for each of its parts, one space between two words, numbers without zeros in front.
use Rattle.std.specs.Prelude.{ℕ, ◌^◌, ◌<◌, ◌≤◌, ◌++◌, List, [], ◌∷◌, length, flat_map, map}
use Rattle.std.specs.Fmt.{decimal}
use Rattle.std.specs.List.{AllByRecursion}
use Rattle.inc_io.specs.Names.{IsName}
use Rattle.inc_script.specs.Forms.{end_word, reader_word, timeouts_word}
use Rattle.inc_script.specs.Spelling.{IsWithinLimits}
use Rattle.inc_script.specs.declared.script.ReaderLine.{ReaderLine}
use Rattle.inc_script.specs.declared.script.Script.{Script}
use Rattle.inc_script.specs.declared.script.TimesLine.{TimesLine}

abbrev pub behind_word : List (List ℕ) → List ℕ
behind_word [] = []
behind_word (word ∷ words) = 32 ∷ (word ++ behind_word words)

abbrev pub spaced : List (List ℕ) → List ℕ
spaced [] = []
spaced (word ∷ words) = word ++ behind_word words

abbrev pub times_words : TimesLine → List (List ℕ)
times_words line = timeouts_word ∷ line.name ∷ decimal line.uid ∷ decimal line.times.least_read ∷ decimal line.times.least_pending ∷ decimal line.times.most_pending ∷ []

abbrev pub span_word : ℕ × ℕ → List ℕ
span_word span = decimal span.0 ++ 45 ∷ decimal span.1

abbrev pub reader_words : ReaderLine → List (List ℕ)
reader_words line = reader_word ∷ decimal line.uid ∷ line.name ∷ map span_word line.blocks

-- the words of each line, with the end's at last
abbrev pub line_text : List (List ℕ) → List ℕ
line_text words = spaced words ++ 10 ∷ []

abbrev pub script_text : Script → List ℕ
script_text script = flat_map (λ line. line_text (times_words line)) script.times ++ (flat_map (λ line. line_text (reader_words line)) script.readers ++ line_text (end_word ∷ []))

-- ---- what can be written

pub record IsTimesLine (line : TimesLine) : Type 0 where
  pub name : IsName line.name
  pub uid : line.uid < 2 ^ 32
  pub first : line.times.least_read < 2 ^ 64
  pub second : line.times.least_pending < 2 ^ 64
  pub third : line.times.most_pending < 2 ^ 64

pub record IsBlockSpan (span : ℕ × ℕ) : Type 0 where
  pub rising : span.0 ≤ span.1
  pub last : span.1 < 2 ^ 32

pub record IsReaderLine (line : ReaderLine) : Type 0 where
  pub uid : line.uid < 2 ^ 32
  pub name : IsName line.name
  pub some : 0 < length line.blocks
  pub spans : AllByRecursion IsBlockSpan line.blocks

pub record IsScript (script : Script) : Type 0 where
  pub limits : IsWithinLimits script
  pub times : AllByRecursion IsTimesLine script.times
  pub readers : AllByRecursion IsReaderLine script.readers
