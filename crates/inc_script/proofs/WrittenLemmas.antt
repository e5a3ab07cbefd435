-- A script that is written out is spelled by its text.
use Rattle.std.proofs.Common.{◌≡◌, ℕ, ◌-◌, ◌^◌, ◌<◌, ◌≤◌, true, List, [], ◌∷◌, ◌++◌, length, map, Some, Result, Ok, refl, sym, ap, ◌∙◌, subst, arith, append_assoc, append-nil, inl, inr}
use Rattle.std.specs.Prelude.{flat_map}
use Rattle.std.specs.Fmt.{decimal}
use Rattle.std.specs.List.{AllByRecursion}
use Rattle.std.proofs.lemmas.List.Concat.{flat_map-cons}
use Rattle.inc_script.specs.Forms.{end_word, reader_word, timeouts_word}
use Rattle.inc_script.specs.Lines.{lines_of}
use Rattle.inc_bytes.specs.Decimals.{numeral_of}
use Rattle.inc_bytes.proofs.Numerals.{decimal_is}
use Rattle.inc_script.specs.Script.{IsRead, script_of}
use Rattle.inc_script.specs.Spelling.{IsSpaced, SpellLines, SpellSpans, SpellsReader, SpellsSpan, SpellsTimes}
use Rattle.inc_script.specs.Written.{IsReaderLine, IsBlockSpan, IsScript, IsTimesLine, behind_word, line_text, reader_words, script_text, spaced, span_word, times_words}
use Rattle.inc_script.specs.declared.script.ReaderLine.{ReaderLine}
use Rattle.inc_script.specs.declared.script.Script.{Script}
use Rattle.inc_script.specs.declared.script.ScriptFault.{ScriptFault}
use Rattle.inc_script.specs.declared.script.TimesLine.{TimesLine}
use Rattle.inc_script.proofs.SpellingLemmas.{spelled_read}
use Rattle.inc_script.proofs.WordLemmas.{first_line_is, lacks, lacks-append, name_lacks, number_lacks}

-- ---- numbers

number_is : (number : ℕ) → number < 2 ^ 32 → numeral_of (2 ^ 32 - 1) (decimal number) ≡ Some number
number_is number lt = decimal_is (2 ^ 32 - 1) number (omega arith) (omega arith)

time_is : (time : ℕ) → time < 2 ^ 64 → numeral_of (2 ^ 64 - 1) (decimal time) ≡ Some time
time_is time lt = decimal_is (2 ^ 64 - 1) time (omega arith) (omega arith)

decimal_lacks : (stop most number : ℕ) → stop < 48 → numeral_of most (decimal number) ≡ Some number → lacks stop (decimal number) ≡ true
decimal_lacks stop most number low is = number_lacks stop most (decimal number) number low is

-- ---- words with one space between two

spaced_is : (word : List ℕ) (words : List (List ℕ)) → IsSpaced (word ∷ words) (spaced (word ∷ words))
spaced_is word [] = inl (refl, append-nil word)
spaced_is word (next ∷ words) = inr (0, next ++ behind_word words, refl, spaced_is next words)

behind_lacks : (words : List (List ℕ)) → AllByRecursion (λ word. lacks 10 word ≡ true) words → lacks 10 (behind_word words) ≡ true
behind_lacks [] are = refl
behind_lacks (word ∷ words) are = lacks-append 10 word (behind_word words) are.0 (behind_lacks words are.1)

spaced_lacks : (words : List (List ℕ)) → AllByRecursion (λ word. lacks 10 word ≡ true) words → lacks 10 (spaced words) ≡ true
spaced_lacks [] are = refl
spaced_lacks (word ∷ words) are = lacks-append 10 word (behind_word words) are.0 (behind_lacks words are.1)

-- ---- the lines

times_written : (line : TimesLine) → IsTimesLine line → SpellsTimes (spaced (times_words line)) line
times_written line is = record {
  uid = decimal line.uid;
  first = decimal line.times.least_read;
  second = decimal line.times.least_pending;
  third = decimal line.times.most_pending;
  words = spaced_is timeouts_word (line.name ∷ decimal line.uid ∷ decimal line.times.least_read ∷ decimal line.times.least_pending ∷ decimal line.times.most_pending ∷ []);
  name_is = is.name;
  uid_is = number_is line.uid is.uid;
  first_is = time_is line.times.least_read is.first;
  second_is = time_is line.times.least_pending is.second;
  third_is = time_is line.times.most_pending is.third;
}

times_lack : (line : TimesLine) → IsTimesLine line → lacks 10 (spaced (times_words line)) ≡ true
unfolding timeouts_word
times_lack line is = spaced_lacks (times_words line) (
  refl,
  (
    name_lacks 10 line.name (omega arith) is.name,
    (
      decimal_lacks 10 (2 ^ 32 - 1) line.uid (omega arith) (number_is line.uid is.uid),
      (
        decimal_lacks 10 (2 ^ 64 - 1) line.times.least_read (omega arith) (time_is line.times.least_read is.first),
        (
          decimal_lacks 10 (2 ^ 64 - 1) line.times.least_pending (omega arith) (time_is line.times.least_pending is.second),
          (decimal_lacks 10 (2 ^ 64 - 1) line.times.most_pending (omega arith) (time_is line.times.most_pending is.third), tt),
        ),
      ),
    ),
  ),
)

span_written : (span : ℕ × ℕ) → IsBlockSpan span → SpellsSpan (span_word span) span
span_written span is =
    let rising = is.rising in
    let last = is.last in
    inr (record {
      first = decimal span.0;
      last = decimal span.1;
      dashed = refl;
      first_is = number_is span.0 (omega arith);
      last_is = number_is span.1 last;
      rising = rising;
    })

spans_written : (spans : List (ℕ × ℕ)) → AllByRecursion IsBlockSpan spans → SpellSpans (map span_word spans) spans
spans_written [] are = tt
spans_written (span ∷ spans) are = (span_written span are.0, spans_written spans are.1)

span_lacks : (span : ℕ × ℕ) → IsBlockSpan span → lacks 10 (span_word span) ≡ true
span_lacks span is =
    let rising = is.rising in
    let last = is.last in
    lacks-append 10 (decimal span.0) (45 ∷ decimal span.1) (decimal_lacks 10 (2 ^ 32 - 1) span.0 (omega arith) (number_is span.0 (omega arith))) (decimal_lacks 10 (2 ^ 32 - 1) span.1 (omega arith) (number_is span.1 last))

spans_lack : (spans : List (ℕ × ℕ)) → AllByRecursion IsBlockSpan spans → AllByRecursion (λ word. lacks 10 word ≡ true) (map span_word spans)
spans_lack [] are = tt
spans_lack (span ∷ spans) are = (span_lacks span are.0, spans_lack spans are.1)

reader_written : (line : ReaderLine) → IsReaderLine line → SpellsReader (spaced (reader_words line)) line
reader_written line is = record {
  uid = decimal line.uid;
  specs = map span_word line.blocks;
  words = spaced_is reader_word (decimal line.uid ∷ line.name ∷ map span_word line.blocks);
  uid_is = number_is line.uid is.uid;
  name_is = is.name;
  blocks_are = spans_written line.blocks is.spans;
  some = is.some;
}

reader_lacks : (line : ReaderLine) → IsReaderLine line → lacks 10 (spaced (reader_words line)) ≡ true
unfolding reader_word
reader_lacks line is = spaced_lacks (reader_words line) (
  refl,
  (decimal_lacks 10 (2 ^ 32 - 1) line.uid (omega arith) (number_is line.uid is.uid), (name_lacks 10 line.name (omega arith) is.name, spans_lack line.blocks is.spans)),
)

-- ---- the text

-- the first line of a text that begins with it
line_first : (line more rest : List ℕ) → lacks 10 line ≡ true → lines_of ((line ++ 10 ∷ [] ++ more) ++ rest) ≡ line ∷ lines_of (more ++ rest)
line_first line more rest lacking = ap lines_of (append_assoc (line ++ 10 ∷ []) more rest ∙ append_assoc line (10 ∷ []) (more ++ rest)) ∙ first_line_is line (more ++ rest) lacking

readers_written : (readers : List ReaderLine) (rest : List ℕ) → AllByRecursion IsReaderLine readers → SpellLines (lines_of rest) [] [] → SpellLines (lines_of (flat_map (λ line. line_text (reader_words line)) readers ++ rest)) [] readers
readers_written [] rest are s = s
readers_written (line ∷ lines) rest are s =
    let f : ReaderLine → List ℕ = λ (l : ReaderLine). line_text (reader_words l) in
    let P : List (List ℕ) → Type 0 = λ (ls : List (List ℕ)). SpellLines ls [] (line ∷ lines) in
    let here : lines_of (flat_map f (line ∷ lines) ++ rest) ≡ spaced (reader_words line) ∷ lines_of (flat_map f lines ++ rest) =
    ap (λ (xs : List ℕ). lines_of (xs ++ rest)) (flat_map-cons f line lines) ∙ line_first (spaced (reader_words line)) (flat_map f lines) rest (reader_lacks line are.0) in
    subst P (sym here) (inr (inr (inl (line, lines, refl, reader_written line are.0, readers_written lines rest are.1 s))))

times_are_written : (times : List TimesLine) (readers : List ReaderLine) (rest : List ℕ) → AllByRecursion IsTimesLine times → SpellLines (lines_of rest) [] readers
    → SpellLines (lines_of (flat_map (λ line. line_text (times_words line)) times ++ rest)) times readers
times_are_written [] readers rest are s = s
times_are_written (line ∷ lines) readers rest are s =
    let f : TimesLine → List ℕ = λ (l : TimesLine). line_text (times_words l) in
    let P : List (List ℕ) → Type 0 = λ (ls : List (List ℕ)). SpellLines ls (line ∷ lines) readers in
    let here : lines_of (flat_map f (line ∷ lines) ++ rest) ≡ spaced (times_words line) ∷ lines_of (flat_map f lines ++ rest) =
    ap (λ (xs : List ℕ). lines_of (xs ++ rest)) (flat_map-cons f line lines) ∙ line_first (spaced (times_words line)) (flat_map f lines) rest (times_lack line are.0) in
    subst P (sym here) (inr (inl (line, lines, refl, times_written line are.0, times_are_written lines readers rest are.1 s)))

end_written : SpellLines (lines_of (line_text (end_word ∷ []))) [] []
unfolding end_word
end_written = inr (inr (inr (refl, refl, refl, tt)))

script_written : (script : Script) → IsScript script → SpellLines (lines_of (script_text script)) script.times script.readers
script_written script is =
    let last = line_text (end_word ∷ []) in
    times_are_written script.times script.readers (flat_map (λ line. line_text (reader_words line)) script.readers ++ last) is.times (readers_written script.readers last is.readers end_written)

pub written_read : (text : List ℕ) (script : Script) (result : Result Script ScriptFault) → IsRead (script_of text) result → IsScript script → text ≡ script_text script → length text ≤ 1048576 → IsRead (Ok script) result
written_read text script result is whole same short = spelled_read text script result is (record {
  short = short;
  limits = whole.limits;
  lines = (let P : List ℕ → Type 0 = λ (xs : List ℕ). SpellLines (lines_of xs) script.times script.readers in subst P (sym same) (script_written script whole));
})
