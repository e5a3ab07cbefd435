-- A report as far as it is written.
use Rattle.std.proofs.Common.{◌≡◌, ℕ, suc, ◌+◌, ◌-◌, ◌<◌, ◌≤◌, List, [], ◌∷◌, ◌++◌, length, drop, get_or, Result, refl, sym, ap, ◌∙◌, arith, append_assoc, append-nil}
use Rattle.std.specs.Prelude.{flat_map}
use Rattle.std.specs.List.{zip}
use Rattle.std.proofs.lemmas.List.{at_drop_more, at_drop_all, drop_all}
use Rattle.std.proofs.lemmas.List.Concat.{flat_map-cons}
use Rattle.inc_model.specs.declared.words.outcomes.Found.{Found}
use Rattle.inc_model.specs.declared.words.outcomes.ReadError.{ReadError}
use Rattle.inc_script.specs.Limits.{reads_in}
use Rattle.inc_script.specs.Report.{file_line, indices_of, loader_line, loader_lines, numbers_from, reader_lines, reply_line, reply_lines}
use Rattle.inc_script.specs.declared.report_text.ends.FileLine.{FileLine}
use Rattle.inc_script.specs.declared.report_text.ends.LoaderLine.{LoaderLine}
use Rattle.inc_script.specs.declared.script.ReaderLine.{ReaderLine}

-- ---- one reader

pub no_replies : (number : ℕ) (name indices : List ℕ) → reply_lines number name indices [] ≡ []
no_replies number name [] = refl
no_replies number name (index ∷ indices) = refl

one_reply : (number : ℕ) (name : List ℕ) (index : ℕ) (indices : List ℕ) (reply : Result Found ReadError) (replies : List (Result Found ReadError))
    → reply_lines number name (index ∷ indices) (reply ∷ replies) ≡ reply_line number name index reply ++ reply_lines number name indices replies
one_reply number name index indices reply replies = flat_map-cons (λ (told : ℕ × Result Found ReadError). reply_line number name told.0 told.1) (index, reply) (zip indices replies)

pub numbers_none : (index end : ℕ) → end ≤ index → numbers_from index (end - index) ≡ []
numbers_none index end le =
    let none : end - index ≡ 0 = omega arith in
    ap (numbers_from index) none

numbers_more : (index end : ℕ) → index < end → numbers_from index (end - index) ≡ index ∷ numbers_from (index + 1) (end - (index + 1))
numbers_more index end lt =
    let some : end - index ≡ suc (end - (index + 1)) = omega arith in
    ap (numbers_from index) some

-- what is written and what is still to come of a span, and of the reads that follow it
pub record SpanTo (number : ℕ) (name : List ℕ) (index end : ℕ) (text : List ℕ) (left : List (Result Found ReadError)) (first : ℕ) (count : ℕ) (old : List ℕ) (all : List (Result Found ReadError)) : Type 0 where
  pub same : (others : List ℕ) → text ++ reply_lines number name (numbers_from index (end - index) ++ others) left ≡ old ++ reply_lines number name (numbers_from first count ++ others) all

pub span_none : (number : ℕ) (name : List ℕ) (first end : ℕ) (text : List ℕ) (replies : List (Result Found ReadError)) → SpanTo number name first end text replies first (end - first) text replies
span_none number name first end text replies = record { same = λ others. refl }

replies_more : (replies : List (Result Found ReadError)) (at : ℕ) (reply : Result Found ReadError) → at < length replies → reply ≡ get_or replies at reply → drop at replies ≡ reply ∷ drop (at + 1) replies
replies_more replies at reply lt is =
    at_drop_more (λ (rs : List (Result Found ReadError)). rs) replies at reply lt ∙ ap (λ (r : Result Found ReadError). r ∷ drop (at + 1) replies) (sym is)

pub span_more : (number : ℕ) (name : List ℕ) (index end : ℕ) (text new line : List ℕ) (at : ℕ) (reply : Result Found ReadError) (first count : ℕ) (old : List ℕ) (replies all : List (Result Found ReadError))
    → SpanTo number name index end text (drop at replies) first count old all → index < end → at < length replies → reply ≡ get_or replies at reply → line ≡ reply_line number name index reply → new ≡ text ++ line
    → SpanTo number name (index + 1) end new (drop (at + 1) replies) first count old all
span_more number name index end text new line at reply first count old replies all to lt here reply_is line_is new_is = record {
  same = λ more.
      let others = drop (at + 1) replies in
      let rest = numbers_from (index + 1) (end - (index + 1)) ++ more in
      ap (λ (xs : List ℕ). xs ++ reply_lines number name rest others) (new_is ∙ ap (λ (xs : List ℕ). text ++ xs) line_is)
      ∙ append_assoc text (reply_line number name index reply) (reply_lines number name rest others)
      ∙ ap (λ (xs : List ℕ). text ++ xs) (sym (one_reply number name index rest reply others))
      ∙ ap (λ (rs : List (Result Found ReadError)). text ++ reply_lines number name (index ∷ rest) rs) (sym (replies_more replies at reply here reply_is))
      ∙ ap (λ (ns : List ℕ). text ++ reply_lines number name (ns ++ more) (drop at replies)) (sym (numbers_more index end lt))
      ∙ to.same more;
}

pub span_all : (number : ℕ) (name : List ℕ) (index end : ℕ) (text : List ℕ) (left : List (Result Found ReadError)) (first count : ℕ) (old : List ℕ) (all : List (Result Found ReadError))
    → SpanTo number name index end text left first count old all → end ≤ index → (others : List ℕ) → text ++ reply_lines number name others left ≡ old ++ reply_lines number name (numbers_from first count ++ others) all
span_all number name index end text left first count old all to le others =
    ap (λ (ns : List ℕ). text ++ reply_lines number name (ns ++ others) left) (sym (numbers_none index end le)) ∙ to.same others

pub span_short : (number : ℕ) (name : List ℕ) (index end : ℕ) (text : List ℕ) (at : ℕ) (first count : ℕ) (old : List ℕ) (replies all : List (Result Found ReadError))
    → SpanTo number name index end text (drop at replies) first count old all → length replies ≤ at
    → (others : List ℕ) → text ++ reply_lines number name others (drop at replies) ≡ old ++ reply_lines number name (numbers_from first count ++ others) all
span_short number name index end text at first count old replies all to le others =
    let none : drop at replies ≡ [] = drop_all at replies le in
    ap (λ (rs : List (Result Found ReadError)). text ++ reply_lines number name others rs) none
    ∙ ap (λ (xs : List ℕ). text ++ xs) (no_replies number name others ∙ sym (no_replies number name (numbers_from index (end - index) ++ others)))
    ∙ ap (λ (rs : List (Result Found ReadError)). text ++ reply_lines number name (numbers_from index (end - index) ++ others) rs) (sym none)
    ∙ to.same others

-- the spans from this one on
pub spans_more : (number : ℕ) (name text new old : List ℕ) (spans : List (ℕ × ℕ)) (at : ℕ) (span : ℕ × ℕ) (left others all : List (Result Found ReadError)) → at < length spans → span ≡ get_or spans at span
    → text ++ reply_lines number name (indices_of (drop at spans)) left ≡ old ++ reply_lines number name (indices_of spans) all
    → ((indices : List ℕ) → new ++ reply_lines number name indices others ≡ text ++ reply_lines number name (numbers_from span.0 (reads_in span) ++ indices) left)
    → new ++ reply_lines number name (indices_of (drop (at + 1) spans)) others ≡ old ++ reply_lines number name (indices_of spans) all
spans_more number name text new old spans at span left others all lt is so_far here =
    let rest = drop (at + 1) spans in
    let first : indices_of (drop at spans) ≡ indices_of (get_or spans at span ∷ rest) = at_drop_more indices_of spans at span lt in
    here (indices_of rest)
    ∙ ap (λ (ns : List ℕ). text ++ reply_lines number name ns left) (
    sym (flat_map-cons (λ (s : ℕ × ℕ). numbers_from s.0 (reads_in s)) span rest)
    ∙ ap (λ (s : ℕ × ℕ). indices_of (s ∷ rest)) is
    ∙ sym first)
    ∙ so_far

pub spans_all : (number : ℕ) (name text old : List ℕ) (spans : List (ℕ × ℕ)) (at : ℕ) (left all : List (Result Found ReadError)) → length spans ≤ at
    → text ++ reply_lines number name (indices_of (drop at spans)) left ≡ old ++ reply_lines number name (indices_of spans) all → text ≡ old ++ reply_lines number name (indices_of spans) all
spans_all number name text old spans at left all le so_far =
    sym (append-nil text) ∙ ap (λ (ns : List ℕ). text ++ reply_lines number name ns left) (sym (at_drop_all indices_of spans at le)) ∙ so_far

-- ---- all readers

pub no_more_replies : (number : ℕ) (lines : List ReaderLine) → reader_lines number lines [] ≡ []
no_more_replies number [] = refl
no_more_replies number (line ∷ lines) = refl

pub readers_more : (text new old : List ℕ) (readers : List ReaderLine) (at : ℕ) (line : ReaderLine) (here : List (Result Found ReadError)) (replies : List (List (Result Found ReadError))) → at < length readers → at < length replies
    → line ≡ get_or readers at line → here ≡ get_or replies at here → text ++ reader_lines (at + 1) (drop at readers) (drop at replies) ≡ old ++ reader_lines 1 readers replies
    → new ≡ text ++ reply_lines (at + 1) line.name (indices_of line.blocks) here → new ++ reader_lines (at + 1 + 1) (drop (at + 1) readers) (drop (at + 1) replies) ≡ old ++ reader_lines 1 readers replies
readers_more text new old readers at line here replies lt here_lt is here_is so_far new_is =
    let rest = drop (at + 1) readers in
    let others = drop (at + 1) replies in
    let mine = reply_lines (at + 1) line.name (indices_of line.blocks) here in
    let first : reader_lines (at + 1) (drop at readers) (drop at replies) ≡ reader_lines (at + 1) (get_or readers at line ∷ rest) (drop at replies)
    = at_drop_more (λ (rs : List ReaderLine). reader_lines (at + 1) rs (drop at replies)) readers at line lt in
    let second : reader_lines (at + 1) (get_or readers at line ∷ rest) (drop at replies) ≡ reader_lines (at + 1) (get_or readers at line ∷ rest) (get_or replies at here ∷ others)
    = at_drop_more (reader_lines (at + 1) (get_or readers at line ∷ rest)) replies at here here_lt in
    ap (λ (xs : List ℕ). xs ++ reader_lines (at + 1 + 1) rest others) new_is
    ∙ append_assoc text mine (reader_lines (at + 1 + 1) rest others)
    ∙ ap (λ (xs : List ℕ). text ++ xs) (
    ap (λ (r : ReaderLine). reader_lines (at + 1) (r ∷ rest) (here ∷ others)) is
    ∙ ap (λ (rs : List (Result Found ReadError)). reader_lines (at + 1) (get_or readers at line ∷ rest) (rs ∷ others)) here_is
    ∙ sym second
    ∙ sym first)
    ∙ so_far

pub readers_short : (text old : List ℕ) (readers : List ReaderLine) (at : ℕ) (replies : List (List (Result Found ReadError))) → length replies ≤ at
    → text ++ reader_lines (at + 1) (drop at readers) (drop at replies) ≡ old ++ reader_lines 1 readers replies → text ≡ old ++ reader_lines 1 readers replies
readers_short text old readers at replies le so_far =
    sym (append-nil text) ∙ ap (λ (xs : List ℕ). text ++ xs) (sym (no_more_replies (at + 1) (drop at readers)) ∙ sym (at_drop_all (reader_lines (at + 1) (drop at readers)) replies at le)) ∙ so_far

pub readers_all : (text old : List ℕ) (readers : List ReaderLine) (at : ℕ) (replies : List (List (Result Found ReadError))) → length readers ≤ at
    → text ++ reader_lines (at + 1) (drop at readers) (drop at replies) ≡ old ++ reader_lines 1 readers replies → text ≡ old ++ reader_lines 1 readers replies
readers_all text old readers at replies le so_far =
    sym (append-nil text) ∙ ap (λ (xs : List ℕ). text ++ xs) (sym (at_drop_all (λ (rs : List ReaderLine). reader_lines (at + 1) rs (drop at replies)) readers at le)) ∙ so_far

-- ---- loaders and files

pub loaders_more : (text new old : List ℕ) (loaders : List LoaderLine) (at : ℕ) (loader : LoaderLine) (line : List ℕ) → at < length loaders → loader ≡ get_or loaders at loader
    → text ++ loader_lines (at + 1) (drop at loaders) ≡ old ++ loader_lines 1 loaders → line ≡ loader_line (at + 1) loader → new ≡ text ++ line
    → new ++ loader_lines (at + 1 + 1) (drop (at + 1) loaders) ≡ old ++ loader_lines 1 loaders
loaders_more text new old loaders at loader line lt is so_far line_is new_is =
    let rest = drop (at + 1) loaders in
    let first : loader_lines (at + 1) (drop at loaders) ≡ loader_lines (at + 1) (get_or loaders at loader ∷ rest) = at_drop_more (loader_lines (at + 1)) loaders at loader lt in
    ap (λ (xs : List ℕ). xs ++ loader_lines (at + 1 + 1) rest) (new_is ∙ ap (λ (xs : List ℕ). text ++ xs) line_is)
    ∙ append_assoc text (loader_line (at + 1) loader) (loader_lines (at + 1 + 1) rest)
    ∙ ap (λ (xs : List ℕ). text ++ xs) (ap (λ (l : LoaderLine). loader_lines (at + 1) (l ∷ rest)) is ∙ sym first)
    ∙ so_far

pub loaders_all : (text old : List ℕ) (loaders : List LoaderLine) (at : ℕ) → length loaders ≤ at → text ++ loader_lines (at + 1) (drop at loaders) ≡ old ++ loader_lines 1 loaders
    → text ≡ old ++ loader_lines 1 loaders
loaders_all text old loaders at le so_far =
    sym (append-nil text) ∙ ap (λ (xs : List ℕ). text ++ xs) (sym (at_drop_all (loader_lines (at + 1)) loaders at le)) ∙ so_far

pub files_more : (text new old : List ℕ) (files : List FileLine) (at : ℕ) (file : FileLine) (line : List ℕ) → at < length files → file ≡ get_or files at file
    → text ++ flat_map file_line (drop at files) ≡ old ++ flat_map file_line files → line ≡ file_line file → new ≡ text ++ line
    → new ++ flat_map file_line (drop (at + 1) files) ≡ old ++ flat_map file_line files
files_more text new old files at file line lt is so_far line_is new_is =
    let rest = drop (at + 1) files in
    let first : flat_map file_line (drop at files) ≡ flat_map file_line (get_or files at file ∷ rest) = at_drop_more (flat_map file_line) files at file lt in
    ap (λ (xs : List ℕ). xs ++ flat_map file_line rest) (new_is ∙ ap (λ (xs : List ℕ). text ++ xs) line_is)
    ∙ append_assoc text (file_line file) (flat_map file_line rest)
    ∙ ap (λ (xs : List ℕ). text ++ xs) (sym (flat_map-cons file_line file rest) ∙ ap (λ (f : FileLine). flat_map file_line (f ∷ rest)) is ∙ sym first)
    ∙ so_far

pub files_all : (text old : List ℕ) (files : List FileLine) (at : ℕ) → length files ≤ at → text ++ flat_map file_line (drop at files) ≡ old ++ flat_map file_line files
    → text ≡ old ++ flat_map file_line files
files_all text old files at le so_far =
    sym (append-nil text) ∙ ap (λ (xs : List ℕ). text ++ xs) (sym (at_drop_all (flat_map file_line) files at le)) ∙ so_far
