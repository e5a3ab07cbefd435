-- A frame without a fault, byte by byte, and that a whole one is the spelling of its piece.
use Rattle.std.proofs.Common.{◌≡◌, ℕ, suc, ◌+◌, ◌-◌, ◌<◌, ◌≤◌, inl, inr, Bool, true, false, cond, ◌&&◌, eqb, leb, List, [], ◌∷◌, ◌++◌, length, get_or, take, drop, Option, Some, None, refl, sym, ap, ◌∙◌, arith, drop-cons}
use Rattle.std.proofs.lemmas.Bool.{cases_lt, eqb-true, eq-eqb, ne_eqb, leb-true}
use Rattle.std.proofs.lemmas.List.{length-append, length-take, length-drop, take-append-drop, get_or_append_left}
use Rattle.inc_bytes.specs.Fields.{AreBytes, le_number, field}
use Rattle.inc_bytes.proofs.Numbers.{AreBytes-take, AreBytes-drop, field-lt, field_next, take-then}
use Rattle.inc_frame.specs.Frames.{kind_byte, frame_head, frame_bytes, IsPiece, frame_length, piece_of}
use Rattle.inc_frame.specs.Fronts.{frame_fault}
use Rattle.inc_frame.specs.declared.fault.FrameFault.{FrameFault}
use Rattle.inc_frame.specs.declared.fault.FrameFault.TheVariants.{BadKind, BadLength}
use Rattle.inc_frame.proofs.FrontLemmas.{frame_length-append}

-- ---- a frame without a fault

-- the bytes of a frame that have come, in front of its block's, are those of some frame
pub record HasSoundHead (frame : List ℕ) : Type 0 where
  pub first : 0 < length frame → get_or frame 0 0 ≡ 1
  pub kind : 17 < length frame → get_or frame 17 0 ≤ 1
  pub size : 24 < length frame → (1 ≤ frame_length frame) × (frame_length frame ≤ 4096)

pub both_true : (a b : Bool) → a && b ≡ true → (a ≡ true) × (b ≡ true)
both_true true b e = (refl, e)
both_true false b e = absurd cc

test_held : (test : Bool) (fault : FrameFault) → cond test None (Some fault) ≡ None → test ≡ true
test_held true fault e = refl
test_held false fault e = absurd cc

by_tests : (a b c : Bool) (x y z : Option FrameFault) → cond a x (cond b y (cond c z None)) ≡ None
    → (a ≡ true → x ≡ None) × (a ≡ false → b ≡ true → y ≡ None) × (a ≡ false → b ≡ false → c ≡ true → z ≡ None)
by_tests true b c x y z e = (λ _. e, λ other _. absurd cc, λ other _ _. absurd cc)
by_tests false true c x y z e = (λ other. absurd cc, λ _ _. e, λ _ other _. absurd cc)
by_tests false false true x y z e = (λ other. absurd cc, λ _ other. absurd cc, λ _ _ _. e)
by_tests false false false x y z e = (λ other. absurd cc, λ _ other. absurd cc, λ _ _ other. absurd cc)

-- what it says that a frame's last byte makes no fault
last_byte_sound : (frame : List ℕ) (place : ℕ) → frame_fault frame place ≡ None
    → (length frame ≡ 1 → get_or frame 0 0 ≡ 1) × (length frame ≡ 18 → get_or frame 17 0 ≤ 1) × (length frame ≡ 25 → (1 ≤ frame_length frame) × (frame_length frame ≤ 4096))
unfolding frame_fault
last_byte_sound frame place e =
    let size = leb 1 (frame_length frame) && leb (frame_length frame) 4096 in
    let tests = by_tests (eqb (length frame) 1) (eqb (length frame) 18) (eqb (length frame) 25)
    (cond (eqb (get_or frame 0 0) 1) None (Some (BadKind place))) (cond (leb (get_or frame 17 0) 1) None (Some (BadKind place))) (cond size None (Some (BadLength (place - 1)))) e in
    let not_first : (n : ℕ) → length frame ≡ n → 1 < n → eqb (length frame) 1 ≡ false = λ n len lt. ne_eqb (length frame) 1 (λ one. omega (arith, one, len, lt)) in (
      λ len. eqb-true _ _ (test_held _ _ (tests.0 (eq-eqb _ _ len))),
      λ len. leb-true _ _ (test_held _ _ (tests.1 (not_first 18 len (omega arith)) (eq-eqb _ _ len))),
      λ len.
          let held = both_true _ _ (test_held size _ (tests.2 (not_first 25 len (omega arith)) (ne_eqb (length frame) 18 (λ other. omega (arith, other, len))) (eq-eqb _ _ len))) in
          (leb-true _ _ held.0, leb-true _ _ held.1),
    )

pub sound_after : (rest : List ℕ) (byte place : ℕ) → HasSoundHead rest → frame_fault (rest ++ byte ∷ []) place ≡ None → HasSoundHead (rest ++ byte ∷ [])
sound_after rest byte place sound none =
    let frame = rest ++ byte ∷ [] in
    let len : length frame ≡ length rest + 1 = length-append rest (byte ∷ []) in
    let last = last_byte_sound frame place none in
    record {
      first = λ _. elim (cases_lt 0 (length rest)) [
        | inl some ↦ get_or_append_left rest (byte ∷ []) 0 0 some ∙ sound.first some
        | inr short ↦ last.0 (omega (arith, len, short))
      ];
      kind = λ long. elim (cases_lt 17 (length rest)) [
        | inl before ↦ omega (arith, get_or_append_left rest (byte ∷ []) 0 17 before, sound.kind before)
        | inr short ↦ last.1 (omega (arith, len, short, long))
      ];
      size = λ long. elim (cases_lt 24 (length rest)) [
        | inl before ↦
            let same = frame_length-append rest (byte ∷ []) (omega (arith, before)) in
            let size = sound.size before in
            (omega (arith, same, size.0), omega (arith, same, size.1))
        | inr short ↦ last.2 (omega (arith, len, short, long))
      ];
    }

-- a frame that isn't whole with this byte lacks others
pub partly_after : (rest : List ℕ) (byte : ℕ) → length rest < 25 + frame_length rest → eqb (length (rest ++ byte ∷ [])) (25 + frame_length (rest ++ byte ∷ [])) ≡ false
    → length (rest ++ byte ∷ []) < 25 + frame_length (rest ++ byte ∷ [])
partly_after rest byte lt part =
    let frame = rest ++ byte ∷ [] in
    let len : length frame ≡ length rest + 1 = length-append rest (byte ∷ []) in
    let le : length frame ≤ 25 + frame_length frame = elim (cases_lt 24 (length rest)) [
      | inl long ↦ omega (arith, len, lt, frame_length-append rest (byte ∷ []) (omega (arith, long)))
      | inr short ↦ omega (arith, len, short)
    ] in
    elim (cases_lt (length frame) (25 + frame_length frame)) [
      | inl below ↦ below
      | inr full ↦ let whole = eq-eqb (length frame) (25 + frame_length frame) (omega (arith, le, full)) in absurd cc
    ]

-- ---- a whole frame is the spelling of its piece

kind_back : (n : ℕ) → n ≤ 1 → kind_byte (eqb n 1) ≡ n
kind_back n le =
    elim (cases_lt 0 n) [
      | inl some ↦ let one : n ≡ 1 = omega (arith, some, le) in rw one refl
      | inr none ↦ let zero : n ≡ 0 = omega (arith, none) in rw zero refl
    ]

one_at_start : (frame : List ℕ) → 0 < length frame → get_or frame 0 0 ≡ 1 → 1 ∷ [] ≡ take 1 frame
one_at_start [] some e = absurd (omega (arith, some))
one_at_start (byte ∷ frame) some e = ap (λ (n : ℕ). n ∷ []) (sym e)

two_at : (at : ℕ) (frame : List ℕ) → at + 1 < length frame → take 2 (drop at frame) ≡ get_or frame at 0 ∷ get_or frame (suc at) 0 ∷ []
two_at at frame lt =
    ap (take 2) (drop-cons frame at 0 (omega (arith, lt)))
    ∙ ap (λ (x : List ℕ). get_or frame at 0 ∷ take 1 x) (drop-cons frame (suc at) 0 (omega (arith, lt)))

whole_head : (frame : List ℕ) → AreBytes frame → HasSoundHead frame → length frame ≡ 25 + frame_length frame → frame_head (piece_of frame) ≡ take 25 frame
unfolding frame_head piece_of
whole_head frame are sound len =
    let long : 25 ≤ length frame = omega (arith, len) in
    let start : 1 ∷ [] ≡ take 1 frame = one_at_start frame (omega (arith, long)) (sound.first (omega (arith, long))) in
    let id : 1 ∷ take 16 (drop 1 frame) ≡ take 17 frame = ap (λ (x : List ℕ). x ++ take 16 (drop 1 frame)) start ∙ take-then 16 1 frame in
    let kind = kind_back (get_or frame 17 0) (sound.kind (omega (arith, long))) in
    let kinds : kind_byte (eqb (get_or frame 17 0) 1) ∷ get_or frame 18 0 ∷ [] ≡ take 2 (drop 17 frame) =
    ap (λ (n : ℕ). n ∷ get_or frame 18 0 ∷ []) kind ∙ sym (two_at 17 frame (omega (arith, long))) in
    let to_kinds : (1 ∷ take 16 (drop 1 frame)) ++ (kind_byte (eqb (get_or frame 17 0) 1) ∷ get_or frame 18 0 ∷ []) ≡ take 19 frame =
    ap (λ (x : List ℕ). x ++ (kind_byte (eqb (get_or frame 17 0) 1) ∷ get_or frame 18 0 ∷ [])) id
    ∙ ap (λ (x : List ℕ). take 17 frame ++ x) kinds ∙ take-then 2 17 frame in
    let to_number = field_next frame are 4 19 (field 4 19 frame) _ (omega (arith, long)) to_kinds refl in
    let size : field 2 23 frame ≡ length (drop 25 frame) =
    ap le_number (two_at 23 frame (omega (arith, long))) ∙ omega (arith, len, length-drop 25 frame) in
    field_next frame are 2 23 (length (drop 25 frame)) _ (omega (arith, long)) to_number size

pub whole_frame : (frame : List ℕ) → AreBytes frame → HasSoundHead frame → length frame ≡ 25 + frame_length frame → frame_bytes (piece_of frame) ≡ frame
unfolding frame_bytes piece_of
whole_frame frame are sound len = ap (λ (x : List ℕ). x ++ drop 25 frame) (whole_head frame are sound len) ∙ take-append-drop 25 frame

pub whole_piece : (frame : List ℕ) → AreBytes frame → HasSoundHead frame → length frame ≡ 25 + frame_length frame → IsPiece (piece_of frame)
unfolding piece_of
whole_piece frame are sound len =
    let size = sound.size (omega (arith, len, sound.first)) in
    let long : 25 ≤ length frame = omega (arith, len) in
    record {
      id_length = omega (arith, long, length-take 16 (drop 1 frame), length-drop 1 frame);
      id_bytes = AreBytes-take 16 (drop 1 frame) (AreBytes-drop 1 frame are);
      number = field-lt 4 19 frame are (omega (arith, long));
      compression = are 18;
      bytes = AreBytes-drop 25 frame are;
      some = omega (arith, len, size.0, length-drop 25 frame);
      most = omega (arith, len, size.1, length-drop 25 frame);
    }
