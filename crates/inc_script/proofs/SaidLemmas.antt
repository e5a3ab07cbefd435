-- What is read from a line is spelled by it.
use Rattle.std.proofs.Common.{◌≡◌, ℕ, suc, ◌-◌, ◌^◌, ◌<◌, ◌≤◌, true, false, cond, eqb, List, [], ◌∷◌, ◌++◌, length, Option, Some, None, refl, sym, ap, ◌∙◌, subst, arith, append-nil, inl, inr}
use Rattle.std.specs.Prelude.{nat_le, bytes_eq, ◌⊎◌}
use Rattle.std.proofs.lemmas.Bool.{cases_Bool, leb-true}
use Rattle.std.proofs.lemmas.Bool.Decides.{eqb_tells}
use Rattle.std.proofs.lemmas.Slice.Eq.{bytes_eq-Decides}
use Rattle.inc_io.specs.Names.{is_name}
use Rattle.inc_pending.specs.declared.timeouts.Times.{Times}
use Rattle.inc_script.specs.Forms.{end_form, end_word, form_of, line_of, reader_form, reader_line, reader_word, rising_span, span_from, block_span, span_to, block_spans, three_times, timeouts_word, times_form, times_line, times_of_numbers, times_of_words, with_span}
use Rattle.inc_script.specs.Lines.{fields_from, fields_of, part_before, part_from, with_byte}
use Rattle.inc_bytes.specs.Decimals.{numeral_of}
use Rattle.inc_script.specs.Spelling.{IsSpaced, SaysNothing, SpellSpans, SpellsReader, SpellsSpan, SpellsTimes, spaces}
use Rattle.inc_script.specs.declared.parsing.forms.ScriptLine.{ScriptLine}
use Rattle.inc_script.specs.declared.parsing.forms.ScriptLine.TheVariants.{Passed, TimesOf, ReaderOf, End}
use Rattle.inc_script.specs.declared.script.ReaderLine.{ReaderLine}
use Rattle.inc_script.specs.declared.script.TimesLine.{TimesLine}

-- ---- fields

with_byte_spaced : (byte : ℕ) (words : List (List ℕ)) (line : List ℕ) → IsSpaced words line → IsSpaced (with_byte byte words) (byte ∷ line)
with_byte_spaced byte [] line spaced = absurd spaced
with_byte_spaced byte (word ∷ words) line (inl alone) = inl (alone.0, ap (λ (xs : List ℕ). byte ∷ xs) alone.1)
with_byte_spaced byte (word ∷ words) line (inr more) = inr (more.0, more.1, ap (λ (xs : List ℕ). byte ∷ xs) more.2, more.3)

-- spaces, and then a line of the fields that stand behind a space
GapSpaced : List ℕ → Type 0
GapSpaced line = (more : ℕ) × (rest : List ℕ) × (line ≡ spaces more ++ rest) × IsSpaced (fields_from true line) rest

record BothSpaced (line : List ℕ) : Type 0 where
  whole : IsSpaced (fields_of line) line
  gap : GapSpaced line

space_more : (byte : ℕ) (bytes : List ℕ) → eqb byte 32 ≡ true → byte ≡ 32 → BothSpaced bytes → BothSpaced (byte ∷ bytes)
unfolding GapSpaced
space_more byte bytes test is both =
    let gap = both.gap in
    let e : byte ∷ bytes ≡ 32 ∷ (spaces gap.0 ++ gap.1) = ap (λ (b : ℕ). b ∷ bytes) is ∙ ap (λ (xs : List ℕ). 32 ∷ xs) gap.2 in
    record {
      whole = rw test (inr (gap.0, gap.1, e, gap.3));
      gap = (suc gap.0, gap.1, e, rw test gap.3);
    }

byte_more : (byte : ℕ) (bytes : List ℕ) → eqb byte 32 ≡ false → BothSpaced bytes → BothSpaced (byte ∷ bytes)
unfolding GapSpaced
byte_more byte bytes test both =
    let here = with_byte_spaced byte (fields_of bytes) bytes both.whole in
    record {
      whole = rw test here;
      gap = (0, byte ∷ bytes, refl, rw test here);
    }

both_spaced : (line : List ℕ) → BothSpaced line
unfolding GapSpaced
both_spaced [] = record { whole = inl (refl, refl); gap = (0, [], refl, inl (refl, refl)) }
both_spaced (byte ∷ bytes) = elim (eqb_tells byte 32) [
  | inl is ↦ space_more byte bytes is.0 is.1 (both_spaced bytes)
  | inr other ↦ byte_more byte bytes other.0 (both_spaced bytes)
]

fields_spaced : (line : List ℕ) → IsSpaced (fields_of line) line
fields_spaced line = (both_spaced line).whole

-- ---- spans

parts_join : (stop : ℕ) (bytes : List ℕ) → part_before stop bytes ++ part_from stop bytes ≡ bytes
parts_join stop [] = refl
parts_join stop (byte ∷ bytes) = elim (eqb_tells byte stop) [
  | inl is ↦ rw is.0 refl
  | inr other ↦ rw other.0 (ap (λ (xs : List ℕ). byte ∷ xs) (parts_join stop bytes))
]

from_head : (stop : ℕ) (bytes : List ℕ) (byte : ℕ) (rest : List ℕ) → part_from stop bytes ≡ byte ∷ rest → byte ≡ stop
from_head stop [] byte rest h = absurd (cc)
from_head stop (first ∷ bytes) byte rest h = elim (eqb_tells first stop) [
  | inl is ↦ (let e : first ∷ bytes ≡ byte ∷ rest = rw is.0 at h in let same : byte ≡ first = cc in same ∙ is.1)
  | inr other ↦ from_head stop bytes byte rest (rw other.0 at h)
]

record DashedParts (first : Option ℕ) (rest : List ℕ) (span : ℕ × ℕ) : Type 0 where
  dash : ℕ
  last : List ℕ
  rest_is : rest ≡ dash ∷ last
  first_is : first ≡ Some span.0
  last_is : numeral_of (2 ^ 32 - 1) last ≡ Some span.1
  rising : span.0 ≤ span.1

rising_cases : (low high : ℕ) (span : ℕ × ℕ) → rising_span low high ≡ Some span → (low ≡ span.0) × (high ≡ span.1) × (span.0 ≤ span.1)
rising_cases low high span h = elim (cases_Bool (nat_le low high)) [
  | inl is ↦ (
      let e : Some (low, high) ≡ Some span = rw is at h in
      let pair : (low, high) ≡ span = cc in
      let first : low ≡ span.0 = ap (λ (s : ℕ × ℕ). s.0) pair in
      let second : high ≡ span.1 = ap (λ (s : ℕ × ℕ). s.1) pair in
      let le = leb-true low high is in
      (first, second, omega arith)
      )
  | inr other ↦ absurd (let e : None ≡ Some span = rw other at h in cc)
]

span_to_cases : (low : ℕ) (last : Option ℕ) (span : ℕ × ℕ) → span_to low last ≡ Some span → (low ≡ span.0) × (last ≡ Some span.1) × (span.0 ≤ span.1)
span_to_cases low None span h = absurd (cc)
span_to_cases low (Some high) span h = let c = rising_cases low high span h in (c.0, ap (λ (n : ℕ). Some n) c.1, c.2)

span_cases : (first : Option ℕ) (rest : List ℕ) (span : ℕ × ℕ) → span_from first rest ≡ Some span → ((first ≡ Some span.0) × (rest ≡ []) × (span.1 ≡ span.0)) ⊎ DashedParts first rest span
span_cases None rest span h = absurd (cc)
span_cases (Some low) [] span h =
    let pair : (low, low) ≡ span = cc in
    let first : low ≡ span.0 = ap (λ (s : ℕ × ℕ). s.0) pair in
    let second : low ≡ span.1 = ap (λ (s : ℕ × ℕ). s.1) pair in
    inl (ap (λ (n : ℕ). Some n) first, refl, sym second ∙ first)
span_cases (Some low) (dash ∷ last) span h =
    let c = span_to_cases low (numeral_of (2 ^ 32 - 1) last) span h in
    inr (record { dash = dash; last = last; rest_is = refl; first_is = ap (λ (n : ℕ). Some n) c.0; last_is = c.1; rising = c.2 })

span_says : (word : List ℕ) (span : ℕ × ℕ) → block_span word ≡ Some span → SpellsSpan word span
span_says word span h = elim (span_cases (numeral_of (2 ^ 32 - 1) (part_before 45 word)) (part_from 45 word) span h) [
  | inl one ↦ inl (ap (numeral_of (2 ^ 32 - 1)) (sym (parts_join 45 word) ∙ ap (λ (xs : List ℕ). part_before 45 word ++ xs) one.1 ∙ append-nil (part_before 45 word)) ∙ one.0, one.2)
  | inr two ↦ inr (record {
    first = part_before 45 word;
    last = two.last;
    dashed = sym (parts_join 45 word) ∙ ap (λ (xs : List ℕ). part_before 45 word ++ xs) (two.rest_is ∙ ap (λ (b : ℕ). b ∷ two.last) (from_head 45 word two.dash two.last two.rest_is));
    first_is = two.first_is;
    last_is = two.last_is;
    rising = two.rising;
  })
]

record SpanParts (first : Option (ℕ × ℕ)) (others : Option (List (ℕ × ℕ))) (spans : List (ℕ × ℕ)) : Type 0 where
  span : ℕ × ℕ
  more : List (ℕ × ℕ)
  first_is : first ≡ Some span
  others_are : others ≡ Some more
  whole : spans ≡ span ∷ more

with_cases : (first : Option (ℕ × ℕ)) (others : Option (List (ℕ × ℕ))) (spans : List (ℕ × ℕ)) → with_span first others ≡ Some spans → SpanParts first others spans
with_cases None others spans h = absurd (cc)
with_cases (Some span) None spans h = absurd (cc)
with_cases (Some span) (Some more) spans h = record { span = span; more = more; first_is = refl; others_are = refl; whole = cc }

spans_say : (words : List (List ℕ)) (spans : List (ℕ × ℕ)) → block_spans words ≡ Some spans → SpellSpans words spans
spans_say [] spans h = (let none : ◌≡◌ {A = List (ℕ × ℕ)} [] spans = cc in let P : List (ℕ × ℕ) → Type 0 = SpellSpans [] in subst P none tt)
spans_say (word ∷ words) spans h =
    let parts = with_cases (block_span word) (block_spans words) spans h in
    let P : List (ℕ × ℕ) → Type 0 = SpellSpans (word ∷ words) in
    subst P (sym parts.whole) (span_says word parts.span parts.first_is, spans_say words parts.more parts.others_are)

-- ---- the parts of a `timeouts` line

record TimesParts (first second third : Option ℕ) (times : Times) : Type 0 where
  first_is : first ≡ Some times.least_read
  second_is : second ≡ Some times.least_pending
  third_is : third ≡ Some times.most_pending

times_cases : (first second third : Option ℕ) (times : Times) → times_of_numbers first second third ≡ Some times → TimesParts first second third times
times_cases None second third times h = absurd (cc)
times_cases (Some first) None third times h = absurd (cc)
times_cases (Some first) (Some second) None times h = absurd (cc)
times_cases (Some first) (Some second) (Some third) times h =
    let made : Times = record { least_read = first; least_pending = second; most_pending = third } in
    let same : made ≡ times = cc in
    record {
      first_is = ap (λ (t : Times). Some t.least_read) same;
      second_is = ap (λ (t : Times). Some t.least_pending) same;
      third_is = ap (λ (t : Times). Some t.most_pending) same;
    }

record ThreeWords (fields : List (List ℕ)) (times : Times) : Type 0 where
  first : List ℕ
  second : List ℕ
  third : List ℕ
  are : fields ≡ first ∷ second ∷ third ∷ []
  say : times_of_words first second third ≡ Some times

three_cases : (fields : List (List ℕ)) (times : Times) → three_times fields ≡ Some times → ThreeWords fields times
three_cases [] times h = absurd (cc)
three_cases (first ∷ []) times h = absurd (cc)
three_cases (first ∷ second ∷ []) times h = absurd (cc)
three_cases (first ∷ second ∷ third ∷ []) times h = record { first = first; second = second; third = third; are = refl; say = h }
three_cases (first ∷ second ∷ third ∷ more ∷ fields) times h = absurd (cc)

record TimesLineParts (name : List ℕ) (uid : Option ℕ) (times : Option Times) (said : ScriptLine) : Type 0 where
  number : ℕ
  three : Times
  uid_is : uid ≡ Some number
  times_are : times ≡ Some three
  name_is : is_name name ≡ true
  says : said ≡ TimesOf (record { name = name; uid = number; times = three })

times_line_cases : (name : List ℕ) (uid : Option ℕ) (times : Option Times) (said : ScriptLine) → times_line name uid times ≡ Some said → TimesLineParts name uid times said
times_line_cases name None times said h = absurd (cc)
times_line_cases name (Some uid) None said h = absurd (cc)
times_line_cases name (Some uid) (Some times) said h = elim (cases_Bool (is_name name)) [
  | inl is ↦ (
      let line : TimesLine = record { name = name; uid = uid; times = times } in
      let e : Some (TimesOf line) ≡ Some said = rw is at h in
      record { number = uid; three = times; uid_is = refl; times_are = refl; name_is = is; says = cc }
      )
  | inr other ↦ absurd (let e : None ≡ Some said = rw other at h in cc)
]

-- ---- the parts of a `reader` line

record ReaderLineParts (uid : Option ℕ) (name : List ℕ) (blocks : Option (List (ℕ × ℕ))) (said : ScriptLine) : Type 0 where
  number : ℕ
  spans : List (ℕ × ℕ)
  uid_is : uid ≡ Some number
  blocks_are : blocks ≡ Some spans
  some : 0 < length spans
  name_is : is_name name ≡ true
  says : said ≡ ReaderOf (record { uid = number; name = name; blocks = spans })

reader_line_cases : (uid : Option ℕ) (name : List ℕ) (blocks : Option (List (ℕ × ℕ))) (said : ScriptLine) → reader_line uid name blocks ≡ Some said → ReaderLineParts uid name blocks said
reader_line_cases None name blocks said h = absurd (cc)
reader_line_cases (Some uid) name None said h = absurd (cc)
reader_line_cases (Some uid) name (Some blocks) said h = elim (eqb_tells (length blocks) 0) [
  | inl none ↦ absurd (let e : None ≡ Some said = rw none.0 at h in cc)
  | inr some ↦ (
      let named : cond (is_name name) (Some (ReaderOf (record { uid = uid; name = name; blocks = blocks }))) None ≡ Some said = rw some.0 at h in
      elim (cases_Bool (is_name name)) [
        | inl is ↦ (
            let line : ReaderLine = record { uid = uid; name = name; blocks = blocks } in
            let e : Some (ReaderOf line) ≡ Some said = rw is at named in
            let ne = some.1 in
            record { number = uid; spans = blocks; uid_is = refl; blocks_are = refl; some = omega arith; name_is = is; says = cc }
            )
        | inr other ↦ absurd (let e : None ≡ Some said = rw other at named in cc)
      ]
      )
]

-- ---- a line

-- what a line says is spelled by it
abbrev pub Says : List ℕ → ScriptLine → Type 0
Says line Passed = SaysNothing line
Says line (TimesOf times) = SpellsTimes line times
Says line (ReaderOf reader) = SpellsReader line reader
Says line End = line ≡ end_word

times_say : (line : List ℕ) (fields : List (List ℕ)) (said : ScriptLine) → IsSpaced (timeouts_word ∷ fields) line → times_form fields ≡ Some said → Says line said
times_say line [] said spaced h = absurd (cc)
times_say line (name ∷ []) said spaced h = absurd (cc)
times_say line (name ∷ uid ∷ fields) said spaced h =
    let parts = times_line_cases name (numeral_of (2 ^ 32 - 1) uid) (three_times fields) said h in
    let words = three_cases fields parts.three parts.times_are in
    let times = times_cases (numeral_of (2 ^ 64 - 1) words.first) (numeral_of (2 ^ 64 - 1) words.second) (numeral_of (2 ^ 64 - 1) words.third) parts.three words.say in
    let P : ScriptLine → Type 0 = Says line in
    let Q : List (List ℕ) → Type 0 = λ (fs : List (List ℕ)). IsSpaced (timeouts_word ∷ name ∷ uid ∷ fs) line in
    subst P (sym parts.says) (record {
      uid = uid;
      first = words.first;
      second = words.second;
      third = words.third;
      words = subst Q words.are spaced;
      name_is = parts.name_is;
      uid_is = parts.uid_is;
      first_is = times.first_is;
      second_is = times.second_is;
      third_is = times.third_is;
    })

reader_says : (line : List ℕ) (fields : List (List ℕ)) (said : ScriptLine) → IsSpaced (reader_word ∷ fields) line → reader_form fields ≡ Some said → Says line said
reader_says line [] said spaced h = absurd (cc)
reader_says line (uid ∷ []) said spaced h = absurd (cc)
reader_says line (uid ∷ name ∷ words) said spaced h =
    let parts = reader_line_cases (numeral_of (2 ^ 32 - 1) uid) name (block_spans words) said h in
    let P : ScriptLine → Type 0 = Says line in
    subst P (sym parts.says) (record {
      uid = uid;
      specs = words;
      words = spaced;
      uid_is = parts.uid_is;
      name_is = parts.name_is;
      blocks_are = spans_say words parts.spans parts.blocks_are;
      some = parts.some;
    })

end_says : (line : List ℕ) (fields : List (List ℕ)) (said : ScriptLine) → IsSpaced (end_word ∷ fields) line → end_form fields ≡ Some said → Says line said
end_says line [] said (inl alone) h = (let P : ScriptLine → Type 0 = Says line in let is : End ≡ said = cc in subst P is alone.1)
end_says line [] said (inr more) h = absurd more.3
end_says line (field ∷ fields) said spaced h = absurd (cc)

form_says : (line : List ℕ) (fields : List (List ℕ)) (said : ScriptLine) → IsSpaced fields line → form_of fields ≡ Some said → Says line said
form_says line [] said spaced h = absurd spaced
form_says line (word ∷ fields) said spaced h =
    let Q : List ℕ → Type 0 = λ (first : List ℕ). IsSpaced (first ∷ fields) line in
    elim (cases_Bool (bytes_eq word timeouts_word)) [
      | inl is ↦ times_say line fields said (subst Q ((bytes_eq-Decides word timeouts_word).0 is) spaced) (rw is at h)
      | inr other ↦ (
          let second : cond (bytes_eq word reader_word) (reader_form fields) (cond (bytes_eq word end_word) (end_form fields) None) ≡ Some said = rw other at h in
          elim (cases_Bool (bytes_eq word reader_word)) [
            | inl is ↦ reader_says line fields said (subst Q ((bytes_eq-Decides word reader_word).0 is) spaced) (rw is at second)
            | inr neither ↦ (
                let third : cond (bytes_eq word end_word) (end_form fields) None ≡ Some said = rw neither at second in
                elim (cases_Bool (bytes_eq word end_word)) [
                  | inl is ↦ end_says line fields said (subst Q ((bytes_eq-Decides word end_word).0 is) spaced) (rw is at third)
                  | inr none ↦ absurd (let e : None ≡ Some said = rw none at third in cc)
                ]
                )
          ]
          )
    ]

pub line_says : (line : List ℕ) (said : ScriptLine) → line_of line ≡ Some said → Says line said
line_says [] said h = (let P : ScriptLine → Type 0 = Says [] in let is : Passed ≡ said = cc in subst P is (inl refl))
line_says (byte ∷ bytes) said h = elim (eqb_tells byte 35) [
  | inl comment ↦ (
      let e : Some Passed ≡ Some said = rw comment.0 at h in
      let is : Passed ≡ said = cc in
      let P : ScriptLine → Type 0 = Says (byte ∷ bytes) in
      subst P is (inr (bytes, ap (λ (b : ℕ). b ∷ bytes) comment.1))
      )
  | inr other ↦ form_says (byte ∷ bytes) (fields_of (byte ∷ bytes)) said (fields_spaced (byte ∷ bytes)) (rw other.0 at h)
]
