-- Lines, fields, and the cuts that find them.
use Rattle.std.proofs.Common.{◌≡◌, ℕ, ◌+◌, ◌-◌, ◌<◌, ◌≤◌, true, false, eqb, List, [], ◌∷◌, ◌++◌, length, take, drop, get_or, refl, sym, ap, ◌∙◌, arith, add-one, append_assoc, append-nil, drop-cons, inl, inr}
use Rattle.std.proofs.lemmas.Bool.{eq-eqb, ne_eqb}
use Rattle.std.proofs.lemmas.Bool.Decides.{eqb_tells}
use Rattle.std.proofs.lemmas.List.{take_more, take_all, drop_all}
use Rattle.inc_script.specs.Lines.{fields_from, fields_of, lines_of, part_before, part_from, tail_fields, with_byte}

-- ---- a cut, as far as its loop has come

pub record CutTo (stop : ℕ) (bytes : List ℕ) (at : ℕ) : Type 0 where
  pub front : take at bytes ++ part_before stop (drop at bytes) ≡ part_before stop bytes
  pub back : part_from stop (drop at bytes) ≡ part_from stop bytes

pub cut_none : (stop : ℕ) (bytes : List ℕ) → CutTo stop bytes 0
cut_none stop bytes = record { front = refl; back = refl }

passed_before : (stop byte : ℕ) (bytes : List ℕ) → eqb byte stop ≡ false → part_before stop (byte ∷ bytes) ≡ byte ∷ part_before stop bytes
passed_before stop byte bytes e = rw e refl

passed_from : (stop byte : ℕ) (bytes : List ℕ) → eqb byte stop ≡ false → part_from stop (byte ∷ bytes) ≡ part_from stop bytes
passed_from stop byte bytes e = rw e refl

met_before : (stop byte : ℕ) (bytes : List ℕ) → eqb byte stop ≡ true → part_before stop (byte ∷ bytes) ≡ []
met_before stop byte bytes e = rw e refl

met_from : (stop byte : ℕ) (bytes : List ℕ) → eqb byte stop ≡ true → part_from stop (byte ∷ bytes) ≡ byte ∷ bytes
met_from stop byte bytes e = rw e refl

-- what is left begins with the byte here
left : (bytes : List ℕ) (at : ℕ) → at < length bytes → drop at bytes ≡ get_or bytes at 0 ∷ drop (at + 1) bytes
left bytes at lt = rw add-one (drop-cons bytes at 0 lt)

pub cut_more : (stop : ℕ) (bytes : List ℕ) (at : ℕ) → CutTo stop bytes at → at < length bytes → (get_or bytes at 0 ≡ stop → ⊥) → CutTo stop bytes (at + 1)
cut_more stop bytes at cut lt ne =
    let byte = get_or bytes at 0 in
    let rest = drop (at + 1) bytes in
    let test : eqb byte stop ≡ false = ne_eqb byte stop ne in
    record {
      front = ap (λ (xs : List ℕ). xs ++ part_before stop rest) (take_more bytes at 0 lt) ∙ append_assoc (take at bytes) (byte ∷ []) (part_before stop rest)
          ∙ ap (λ (xs : List ℕ). take at bytes ++ xs) (sym (passed_before stop byte rest test) ∙ ap (part_before stop) (sym (left bytes at lt))) ∙ cut.front;
      back = sym (passed_from stop byte rest test) ∙ ap (part_from stop) (sym (left bytes at lt)) ∙ cut.back;
    }

pub front_here : (stop : ℕ) (bytes : List ℕ) (at : ℕ) → CutTo stop bytes at → at < length bytes → get_or bytes at 0 ≡ stop → take at bytes ≡ part_before stop bytes
front_here stop bytes at cut lt here =
    let byte = get_or bytes at 0 in
    let none : part_before stop (drop at bytes) ≡ [] = ap (part_before stop) (left bytes at lt) ∙ met_before stop byte (drop (at + 1) bytes) (eq-eqb byte stop here) in
    sym (append-nil (take at bytes)) ∙ ap (λ (xs : List ℕ). take at bytes ++ xs) (sym none) ∙ cut.front

pub back_here : (stop : ℕ) (bytes : List ℕ) (at : ℕ) → CutTo stop bytes at → at < length bytes → get_or bytes at 0 ≡ stop → drop at bytes ≡ part_from stop bytes
back_here stop bytes at cut lt here =
    let byte = get_or bytes at 0 in
    left bytes at lt ∙ sym (met_from stop byte (drop (at + 1) bytes) (eq-eqb byte stop here)) ∙ ap (part_from stop) (sym (left bytes at lt)) ∙ cut.back

pub front_all : (stop : ℕ) (bytes : List ℕ) (at : ℕ) → CutTo stop bytes at → length bytes ≤ at → bytes ≡ part_before stop bytes
front_all stop bytes at cut le =
    sym (append-nil bytes) ∙ ap (λ (xs : List ℕ). xs ++ []) (sym (take_all at bytes le)) ∙ ap (λ (xs : List ℕ). take at bytes ++ part_before stop xs) (sym (drop_all at bytes le)) ∙ cut.front

pub back_all : (stop : ℕ) (bytes : List ℕ) (at : ℕ) → CutTo stop bytes at → length bytes ≤ at → ◌≡◌ {A = List ℕ} [] (part_from stop bytes)
back_all stop bytes at cut le = ap (part_from stop) (sym (drop_all at bytes le)) ∙ cut.back

pub ruleset cuts = (cut_none, cut_more, front_here, back_here, front_all, back_all)

-- ---- lines

-- what stands behind the line feed
pub behind : List ℕ → List ℕ
behind [] = []
behind (byte ∷ bytes) = bytes

line_first : (byte : ℕ) (bytes : List ℕ) → lines_of (byte ∷ bytes) ≡ part_before 10 (byte ∷ bytes) ∷ lines_of (behind (part_from 10 (byte ∷ bytes)))
unfolding behind
line_first byte [] = elim (eqb_tells byte 10) [
  | inl is ↦ rw is.0 refl
  | inr not ↦ rw not.0 refl
]
line_first byte (next ∷ bytes) = elim (eqb_tells byte 10) [
  | inl is ↦ rw is.0 refl
  | inr not ↦ rw not.0 (ap (with_byte byte) (line_first next bytes))
]

-- the text's last line, and one that others follow
pub line_alone : (text line rest : List ℕ) → 0 < length text → line ≡ part_before 10 text → rest ≡ part_from 10 text → length rest < 1 → lines_of text ≡ line ∷ lines_of rest
unfolding behind
line_alone [] line rest some line_is rest_is none = absurd (omega arith)
line_alone (byte ∷ bytes) line [] some line_is rest_is none =
    line_first byte bytes ∙ ap (λ (left : List ℕ). part_before 10 (byte ∷ bytes) ∷ lines_of (behind left)) (sym rest_is) ∙ ap (λ (here : List ℕ). here ∷ lines_of []) (sym line_is)
line_alone (byte ∷ bytes) line (feed ∷ after) some line_is rest_is none = absurd (omega arith)

pub line_before : (text line after : List ℕ) (feed : ℕ) → 0 < length text → line ≡ part_before 10 text → feed ∷ after ≡ part_from 10 text → lines_of text ≡ line ∷ lines_of after
unfolding behind
line_before [] line after feed some line_is rest_is = absurd (omega arith)
line_before (byte ∷ bytes) line after feed some line_is rest_is =
    line_first byte bytes ∙ ap (λ (left : List ℕ). part_before 10 (byte ∷ bytes) ∷ lines_of (behind left)) (sym rest_is) ∙ ap (λ (here : List ℕ). here ∷ lines_of after) (sym line_is)

pub line_then : (text line rest : List ℕ) → 0 < length text → line ≡ part_before 10 text → rest ≡ part_from 10 text → 1 ≤ length rest → lines_of text ≡ line ∷ lines_of (take (length rest - 1) (drop 1 rest))
line_then text line [] some line_is rest_is more = absurd (omega arith)
line_then text line (feed ∷ after) some line_is rest_is more =
    line_before text line after feed some line_is rest_is ∙ ap (λ (left : List ℕ). line ∷ lines_of left) (sym (take_all (length (feed ∷ after) - 1) after (omega arith)))

-- ---- fields

pub first_field : (line : List ℕ) → fields_of line ≡ part_before 32 line ∷ tail_fields (part_from 32 line)
first_field [] = refl
first_field (byte ∷ bytes) = elim (eqb_tells byte 32) [
  | inl is ↦ rw is.0 refl
  | inr not ↦ rw not.0 (ap (with_byte byte) (first_field bytes))
]

-- spaces at the front say nothing behind a space
pub space_passed : (byte : ℕ) (bytes : List ℕ) → byte ≡ 32 → fields_from true (byte ∷ bytes) ≡ fields_from true bytes
space_passed byte bytes e = rw (eq-eqb byte 32 e) refl

pub no_space : (byte : ℕ) (bytes : List ℕ) → (byte ≡ 32 → ⊥) → fields_from true (byte ∷ bytes) ≡ fields_of (byte ∷ bytes)
no_space byte bytes ne = rw (ne_eqb byte 32 ne) refl
