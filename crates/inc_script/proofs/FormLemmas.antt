-- What a line spells is read from it.
use Rattle.std.proofs.Common.{◌≡◌, ℕ, ◌-◌, ◌^◌, ◌≤◌, false, eqb, List, [], ◌∷◌, ◌++◌, length, Option, Some, refl, sym, ap, ◌∙◌, subst, arith, inl, inr}
use Rattle.std.specs.List.{AllByRecursion}
use Rattle.std.proofs.lemmas.Bool.{le-leb, ne_eqb}
use Rattle.inc_script.specs.Forms.{end_word, form_of, line_of, reader_word, span_from, block_span, span_to, block_spans, timeouts_word, with_span}
use Rattle.inc_script.specs.Lines.{fields_of, part_from}
use Rattle.inc_bytes.specs.Decimals.{numeral_of}
use Rattle.inc_script.specs.Spelling.{IsSpaced, SaysNothing, SpellSpans, SpellsReader, SpellsDashed, SpellsSpan, SpellsTimes, spaces}
use Rattle.inc_script.specs.declared.parsing.forms.ScriptLine.TheVariants.{Passed, TimesOf, ReaderOf, End}
use Rattle.inc_script.specs.declared.script.ReaderLine.{ReaderLine}
use Rattle.inc_script.specs.declared.script.TimesLine.{TimesLine}
use Rattle.inc_script.proofs.WordLemmas.{IsWord, before_alone, before_stop, dashed_word, from_alone, from_stop, name_word, number_lacks, number_word, words_read}

-- ---- spans

dashed_read : (word : List ℕ) (span : ℕ × ℕ) → SpellsDashed word span → block_span word ≡ Some span
dashed_read word span s =
    let lacking = number_lacks 45 (2 ^ 32 - 1) s.first span.0 (omega arith) s.first_is in
    ap block_span s.dashed
    ∙ ap (λ (front : List ℕ). span_from (numeral_of (2 ^ 32 - 1) front) (part_from 45 (s.first ++ 45 ∷ s.last))) (before_stop 45 s.first s.last refl lacking)
    ∙ ap (λ (rest : List ℕ). span_from (numeral_of (2 ^ 32 - 1) s.first) rest) (from_stop 45 s.first s.last refl lacking)
    ∙ ap (λ (first : Option ℕ). span_from first (45 ∷ s.last)) s.first_is
    ∙ ap (span_to span.0) s.last_is
    ∙ rw (le-leb span.0 span.1 s.rising) refl

block_read : (word : List ℕ) (span : ℕ × ℕ) → numeral_of (2 ^ 32 - 1) word ≡ Some span.0 → span.1 ≡ span.0 → block_span word ≡ Some span
block_read word span is one =
    let lacking = number_lacks 45 (2 ^ 32 - 1) word span.0 (omega arith) is in
    ap (λ (front : List ℕ). span_from (numeral_of (2 ^ 32 - 1) front) (part_from 45 word)) (before_alone 45 word lacking)
    ∙ ap (λ (rest : List ℕ). span_from (numeral_of (2 ^ 32 - 1) word) rest) (from_alone 45 word lacking)
    ∙ ap (λ (first : Option ℕ). span_from first []) is
    ∙ ap (λ (last : ℕ). Some (span.0, last)) (sym one)

span_read : (word : List ℕ) (span : ℕ × ℕ) → SpellsSpan word span → block_span word ≡ Some span
span_read word span (inl one) = block_read word span one.0 one.1
span_read word span (inr dashed) = dashed_read word span dashed

pub spans_read : (words : List (List ℕ)) (spans : List (ℕ × ℕ)) → SpellSpans words spans → block_spans words ≡ Some spans
spans_read [] [] s = refl
spans_read [] (span ∷ spans) s = absurd s
spans_read (word ∷ words) [] s = absurd s
spans_read (word ∷ words) (span ∷ spans) s =
    ap (λ (first : Option (ℕ × ℕ)). with_span first (block_spans words)) (span_read word span s.0) ∙ ap (with_span (Some span)) (spans_read words spans s.1)

span_is_word : (word : List ℕ) (span : ℕ × ℕ) → SpellsSpan word span → IsWord word
span_is_word word span (inl one) = number_word (2 ^ 32 - 1) word span.0 one.0
span_is_word word span (inr two) = let P : List ℕ → Type 0 = IsWord in subst P (sym two.dashed) (dashed_word (2 ^ 32 - 1) two.first two.last span.0 span.1 two.first_is two.last_is)

spans_are_words : (words : List (List ℕ)) (spans : List (ℕ × ℕ)) → SpellSpans words spans → AllByRecursion IsWord words
spans_are_words [] [] s = tt
spans_are_words [] (span ∷ spans) s = absurd s
spans_are_words (word ∷ words) [] s = absurd s
spans_are_words (word ∷ words) (span ∷ spans) s = (span_is_word word span s.0, spans_are_words words spans s.1)

-- ---- lines

-- a line that begins with a letter is read by its form
lettered : (line bytes : List ℕ) (byte : ℕ) → line ≡ byte ∷ bytes → 36 ≤ byte → line_of line ≡ form_of (fields_of line)
lettered line bytes byte e high =
    let test : eqb byte 35 ≡ false = ne_eqb byte 35 (λ is. omega arith) in
    ap line_of e ∙ rw test refl ∙ ap (λ (xs : List ℕ). form_of (fields_of xs)) (sym e)

-- a line of words begins as its first word does
front_byte : (byte : ℕ) (bytes line : List ℕ) (words : List (List ℕ)) → IsSpaced ((byte ∷ bytes) ∷ words) line → (rest : List ℕ) × (line ≡ byte ∷ rest)
front_byte byte bytes line words (inl alone) = (bytes, alone.1)
front_byte byte bytes line words (inr more) = (bytes ++ 32 ∷ (spaces more.0 ++ more.1), more.2)

timeouts_is_word : IsWord timeouts_word
unfolding timeouts_word
timeouts_is_word = record { some = omega arith; plain = refl }

reader_is_word : IsWord reader_word
unfolding reader_word
reader_is_word = record { some = omega arith; plain = refl }

pub times_read : (line : List ℕ) (times : TimesLine) → SpellsTimes line times → line_of line ≡ Some (TimesOf times)
unfolding timeouts_word
times_read line times s =
    let words = timeouts_word ∷ times.name ∷ s.uid ∷ s.first ∷ s.second ∷ s.third ∷ [] in
    let are : AllByRecursion IsWord words = (
      timeouts_is_word,
      (
        name_word times.name s.name_is,
        (
          number_word (2 ^ 32 - 1) s.uid times.uid s.uid_is,
          (
            number_word (2 ^ 64 - 1) s.first times.times.least_read s.first_is,
            (
              number_word (2 ^ 64 - 1) s.second times.times.least_pending s.second_is,
              (number_word (2 ^ 64 - 1) s.third times.times.most_pending s.third_is, tt),
            ),
          ),
        ),
      ),
    ) in
    let front = front_byte 116 _ line _ s.words in
    lettered line front.0 116 front.1 (omega arith)
    ∙ ap form_of (words_read words line are s.words)
    ∙ rw (s.uid_is, s.first_is, s.second_is, s.third_is, s.name_is) refl

pub reader_read : (line : List ℕ) (reader : ReaderLine) → SpellsReader line reader → line_of line ≡ Some (ReaderOf reader)
unfolding timeouts_word reader_word
reader_read line reader s =
    let words = reader_word ∷ s.uid ∷ reader.name ∷ s.specs in
    let are : AllByRecursion IsWord words = (reader_is_word, (number_word (2 ^ 32 - 1) s.uid reader.uid s.uid_is, (name_word reader.name s.name_is, spans_are_words s.specs reader.blocks s.blocks_are))) in
    let front = front_byte 114 _ line _ s.words in
    let some = s.some in
    let test : eqb (length reader.blocks) 0 ≡ false = ne_eqb (length reader.blocks) 0 (λ e. omega arith) in
    lettered line front.0 114 front.1 (omega arith)
    ∙ ap form_of (words_read words line are s.words)
    ∙ rw (s.uid_is, spans_read s.specs reader.blocks s.blocks_are, test, s.name_is) refl

pub end_read : (line : List ℕ) → line ≡ end_word → line_of line ≡ Some End
unfolding timeouts_word reader_word end_word
end_read line e = ap line_of e

pub nothing_read : (line : List ℕ) → SaysNothing line → line_of line ≡ Some Passed
nothing_read line (inl empty) = ap line_of empty
nothing_read line (inr comment) = ap line_of comment.1
