-- An ended stream spells its bytes: what was read of it is printed as the bytes that were read.
use Rattle.std.proofs.Common.{◌≡◌, ℕ, ◌+◌, ◌^◌, ◌<◌, ◌≤◌, ◌⊎◌, inl, inr, Bool, true, false, cond, ◌||◌, eqb, List, [], ◌∷◌, ◌++◌, length, get_or, drop, Option, Some, None, refl, sym, ap, subst, ◌∙◌, arith}
use Rattle.std.specs.Prelude.{All}
use Rattle.std.specs.List.{flat_map}
use Rattle.std.proofs.lemmas.Bool.{cases_Bool, cases_lt, or_cases, eqb-true, eq-eqb}
use Rattle.std.proofs.lemmas.List.{append_assoc, length-append, take_at, drop_at}
use Rattle.std.proofs.lemmas.List.Elements.{All-cons}
use Rattle.inc_bytes.specs.Fields.{AreBytes}
use Rattle.inc_bytes.proofs.Numbers.{AreBytes-take, AreBytes-drop}
use Rattle.inc_frame.specs.Frames.{hello_bytes, frame_bytes, stream_bytes, IsPiece, BeginsWithStream, stream_limit, frame_length, piece_of}
use Rattle.inc_frame.specs.Fronts.{StreamState, Greeting, Framing, Ended, Faulty, StreamFront, no_piece, joined_front, is_hello_byte, hello_front, ends_stream, frame_fault, within_limit, byte_front, front_from, stream_front}
use Rattle.inc_frame.specs.declared.piece.Piece.{Piece}
use Rattle.inc_frame.specs.declared.fault.FrameFault.{FrameFault}
use Rattle.inc_frame.specs.declared.fault.FrameFault.TheVariants.{BadHello, TooLong}
use Rattle.inc_frame.proofs.FrontLemmas.{front_with, front_from-ended, front_from-faulty, front_from-byte, within_limit-pieces, grown_whole, grown_partly, below_limit, ended_byte, faulty_byte, fine_byte}
use Rattle.inc_frame.proofs.WholeFrames.{HasSoundHead, both_true, sound_after, partly_after, whole_frame, whole_piece}

-- ---- frames

-- the bytes of a frame that has begun and those that follow are frames, the end, and other bytes
record SpellsFrames (limit place : ℕ) (rest bytes : List ℕ) (count : ℕ) (pieces : List Piece) : Type 0 where
  extra : List ℕ
  each : All IsPiece pieces
  spelled : rest ++ bytes ≡ flat_map frame_bytes pieces ++ (2 ∷ extra)
  counted : count + length rest ≡ place + length (flat_map frame_bytes pieces) + 1
  within : count ≤ limit

-- that these bytes do so behind any part of a frame, if the stream has its end in them
abbrev Spelled : List ℕ → Type 0
Spelled bytes =
    (limit place : ℕ) (rest : List ℕ) (count : ℕ) → AreBytes (rest ++ bytes) → HasSoundHead rest → length rest < 25 + frame_length rest → place < limit
    → (front_from (Framing limit place rest) bytes).state ≡ Ended count → SpellsFrames limit place rest bytes count (front_from (Framing limit place rest) bytes).pieces

end_frame : (rest : List ℕ) (byte : ℕ) → ends_stream (rest ++ byte ∷ []) ≡ true → (rest ≡ []) × (byte ≡ 2)
end_frame [] byte e = (refl, eqb-true byte 2 (both_true (eqb 1 1) (eqb byte 2) e).1)
end_frame (first ∷ rest) byte e =
    let one = eqb-true _ _ (both_true (eqb (length (first ∷ (rest ++ byte ∷ []))) 1) (eqb first 2) e).0 in
    absurd (omega (arith, one, length-append rest (byte ∷ [])))

state_of : (front other : StreamFront) → front ≡ other → front.state ≡ other.state
state_of front other e = ap (λ (front : StreamFront). front.state) e

fault_cases : (o : Option FrameFault) → (o ≡ None) ⊎ ((fault : FrameFault) × (o ≡ Some fault))
fault_cases None = inl refl
fault_cases (Some fault) = inr (fault, refl)

-- a byte with which the stream has its fault leaves it without an end
never_ends : (state : StreamState) (byte : ℕ) (bytes : List ℕ) (front : StreamFront) (fault : FrameFault) (count : ℕ) → byte_front state byte ≡ front → front.state ≡ Faulty fault
    → (front_from state (byte ∷ bytes)).state ≡ Ended count → ⊥
unfolding front_from
never_ends state byte bytes front fault count e faulty ends =
    let here : (front_from state (byte ∷ bytes)).state ≡ (front_from front.state bytes).state = ap (λ (front : StreamFront). (front_from front.state bytes).state) e in
    let stays : (front_from front.state bytes).state ≡ Faulty fault = ap (λ (state : StreamState). (front_from state bytes).state) faulty ∙ state_of _ _ (front_from-faulty fault bytes) in
    let clash : Faulty fault ≡ Ended count = sym (here ∙ stays) ∙ ends in
    absurd cc

front_from-piece : (state after : StreamState) (piece : Piece) (byte : ℕ) (bytes : List ℕ) → byte_front state byte ≡ front_with (piece ∷ []) after → front_from state (byte ∷ bytes) ≡ joined_front (piece ∷ []) (front_from after bytes)
unfolding front_from
front_from-piece state after piece byte bytes e = ap (λ (front : StreamFront). joined_front front.pieces (front_from front.state bytes)) e

at_end : (limit place : ℕ) (rest bytes : List ℕ) (byte count : ℕ) → place < limit → ends_stream (rest ++ byte ∷ []) ≡ true → place + 1 ≡ count → SpellsFrames limit place rest (byte ∷ bytes) count []
at_end limit place rest bytes byte count lt ends count-is =
    let are = end_frame rest byte ends in
    record {
      extra = bytes;
      each = λ k d low. absurd (omega (arith, low));
      spelled = rw (are.0, are.1) refl;
      counted = rw are.0 (omega (arith, count-is));
      within = omega (arith, lt, count-is);
    }

ended_count : (place count : ℕ) → Ended (place + 1) ≡ Ended count → place + 1 ≡ count
ended_count place count e = cc

full_limit : (limit count : ℕ) (rest : List ℕ) (pieces : List Piece) → count ≡ limit → (within_limit limit count rest pieces).state ≡ Faulty (TooLong limit)
full_limit limit count rest pieces e = rw (eq-eqb count limit e) refl

-- a frame that is whole with this byte, and what follows it
one_more : (limit place : ℕ) (rest bytes : List ℕ) (byte count : ℕ) (pieces : List Piece) → AreBytes ((rest ++ byte ∷ []) ++ bytes) → HasSoundHead (rest ++ byte ∷ []) → length (rest ++ byte ∷ []) ≡ 25 + frame_length (rest ++ byte ∷ [])
    → SpellsFrames limit (place + 1) [] bytes count pieces → SpellsFrames limit place rest (byte ∷ bytes) count (piece_of (rest ++ byte ∷ []) ∷ pieces)
one_more limit place rest bytes byte count pieces are sound len later =
    let frame = rest ++ byte ∷ [] in
    let frame_are : AreBytes frame = subst AreBytes (take_at frame bytes (length frame) refl) (AreBytes-take (length frame) (frame ++ bytes) are) in
    let whole = whole_frame frame frame_are sound len in
    let flat = flat_map frame_bytes pieces in
    record {
      extra = later.extra;
      each = All-cons IsPiece (piece_of frame) pieces (whole_piece frame frame_are sound len) later.each;
      spelled =
          sym (append_assoc rest (byte ∷ []) bytes)
          ∙ ap (λ (x : List ℕ). x ++ bytes) (sym whole)
          ∙ ap (λ (x : List ℕ). frame_bytes (piece_of frame) ++ x) later.spelled
          ∙ sym (append_assoc (frame_bytes (piece_of frame)) flat (2 ∷ later.extra));
      counted = omega (arith, later.counted, length-append (frame_bytes (piece_of frame)) flat, ap length whole, length-append rest (byte ∷ []));
      within = later.within;
    }

-- a frame that isn't whole with this byte
one_byte : (limit place : ℕ) (rest bytes : List ℕ) (byte count : ℕ) (pieces : List Piece) → SpellsFrames limit (place + 1) (rest ++ byte ∷ []) bytes count pieces → SpellsFrames limit place rest (byte ∷ bytes) count pieces
one_byte limit place rest bytes byte count pieces later = record {
  extra = later.extra;
  each = later.each;
  spelled = sym (append_assoc rest (byte ∷ []) bytes) ∙ later.spelled;
  counted = omega (arith, later.counted, length-append rest (byte ∷ []));
  within = later.within;
}

nothing_sound : HasSoundHead []
nothing_sound = record { first = λ lt. absurd (omega (arith, lt)); kind = λ lt. absurd (omega (arith, lt)); size = λ lt. absurd (omega (arith, lt)) }

next_byte : (byte : ℕ) (bytes : List ℕ) → Spelled bytes → Spelled (byte ∷ bytes)
unfolding byte_front
next_byte byte bytes later limit place rest count are sound partly below ends =
    let frame = rest ++ byte ∷ [] in
    let state = Framing limit place rest in
    let regrouped : frame ++ bytes ≡ rest ++ byte ∷ bytes = append_assoc rest (byte ∷ []) bytes in
    let all : AreBytes (frame ++ bytes) = subst AreBytes (sym regrouped) are in
    let Goal : StreamFront → Type 0 = λ (front : StreamFront). SpellsFrames limit place rest (byte ∷ bytes) count front.pieces in
    elim (cases_Bool (ends_stream frame)) [
      | inl last ↦
          let same : front_from state (byte ∷ bytes) ≡ no_piece (Ended (place + 1)) = front_from-byte state (Ended (place + 1)) byte bytes (ended_byte limit place frame last) ∙ front_from-ended (place + 1) bytes in
          subst Goal (sym same) (at_end limit place rest bytes byte count below last (ended_count place count (sym (state_of _ _ same) ∙ ends)))
      | inr going ↦
          elim (fault_cases (frame_fault frame place)) [
            | inr bad ↦ absurd (never_ends state byte bytes (no_piece (Faulty bad.0)) bad.0 count (faulty_byte limit place frame bad.0 going bad.1) refl ends)
            | inl none ↦
                let fine = fine_byte limit place frame going none in
                let sound' = sound_after rest byte place sound none in
                elim (cases_Bool (eqb (length frame) (25 + frame_length frame))) [
                  | inl full ↦
                      let whole = eqb-true _ _ full in
                      let here = fine ∙ grown_whole limit (place + 1) frame whole in
                      elim (cases_lt (place + 1) limit) [
                        | inl lt ↦
                            let next = Framing limit (place + 1) [] in
                            let given = here ∙ within_limit-pieces limit (place + 1) (piece_of frame ∷ []) next (below_limit limit (place + 1) [] lt) in
                            let same = front_from-piece state next (piece_of frame) byte bytes given in
                            let after = later limit (place + 1) [] count (subst AreBytes (drop_at frame bytes (length frame) refl) (AreBytes-drop (length frame) (frame ++ bytes) all)) nothing_sound (omega arith) lt (sym (state_of _ _ same) ∙ ends) in
                            subst Goal (sym same) (one_more limit place rest bytes byte count (front_from next bytes).pieces all sound' whole after)
                        | inr full ↦ absurd (never_ends state byte bytes (within_limit limit (place + 1) [] (piece_of frame ∷ [])) (TooLong limit) count here (full_limit limit (place + 1) [] (piece_of frame ∷ []) (omega (arith, below, full))) ends)
                      ]
                  | inr part ↦
                      let lt' = partly_after rest byte partly part in
                      let here = fine ∙ grown_partly limit (place + 1) frame lt' in
                      elim (cases_lt (place + 1) limit) [
                        | inl lt ↦
                            let next = Framing limit (place + 1) frame in
                            let same = front_from-byte state next byte bytes (here ∙ below_limit limit (place + 1) frame lt) in
                            subst Goal (sym same) (one_byte limit place rest bytes byte count (front_from next bytes).pieces (later limit (place + 1) frame count all sound' lt' lt (sym (state_of _ _ same) ∙ ends)))
                        | inr full ↦ absurd (never_ends state byte bytes (within_limit limit (place + 1) frame []) (TooLong limit) count here (full_limit limit (place + 1) frame [] (omega (arith, below, full))) ends)
                      ]
                ]
          ]
    ]

frames_spelled : (bytes : List ℕ) → Spelled bytes
unfolding front_from
frames_spelled [] = λ limit place rest count are sound partly below ends. absurd cc
frames_spelled (byte ∷ bytes) = next_byte byte bytes (frames_spelled bytes)

-- ---- the hello

record HelloStep (seen bytes : List ℕ) : Type 0 where
  byte : ℕ
  rest : List ℕ
  is : bytes ≡ byte ∷ rest
  good : is_hello_byte (length seen) byte ≡ true
  goes : front_from (Greeting seen) bytes ≡ front_from (cond (eqb (length seen) 7) (Framing (stream_limit (get_or seen 6 0)) 8 []) (Greeting (seen ++ byte ∷ []))) rest

by_last : (last : Bool) (framing greeting : StreamState) → cond last (no_piece framing) (no_piece greeting) ≡ no_piece (cond last framing greeting)
by_last true framing greeting = refl
by_last false framing greeting = refl

good_byte : (seen : List ℕ) (byte : ℕ) → is_hello_byte (length seen) byte ≡ true
    → hello_front seen byte ≡ no_piece (cond (eqb (length seen) 7) (Framing (stream_limit (get_or seen 6 0)) 8 []) (Greeting (seen ++ byte ∷ [])))
unfolding hello_front
good_byte seen byte good = rw good (by_last (eqb (length seen) 7) (Framing (stream_limit (get_or seen 6 0)) 8 []) (Greeting (seen ++ byte ∷ [])))

bad_byte : (seen : List ℕ) (byte : ℕ) → is_hello_byte (length seen) byte ≡ false → (fault : FrameFault) × (hello_front seen byte ≡ no_piece (Faulty fault))
unfolding hello_front
bad_byte seen byte bad = (BadHello (length seen), rw bad refl)

hello_step : (seen bytes : List ℕ) (count : ℕ) → (front_from (Greeting seen) bytes).state ≡ Ended count → HelloStep seen bytes
unfolding front_from byte_front
hello_step seen [] count ends = absurd cc
hello_step seen (byte ∷ bytes) count ends =
    elim (cases_Bool (is_hello_byte (length seen) byte)) [
      | inl good ↦ record { byte = byte; rest = bytes; is = refl; good = good; goes = front_from-byte (Greeting seen) _ byte bytes (good_byte seen byte good) }
      | inr bad ↦
          let faulty = bad_byte seen byte bad in
          absurd (never_ends (Greeting seen) byte bytes (no_piece (Faulty faulty.0)) faulty.0 count faulty.1 refl ends)
    ]

-- the bytes of a hello that have come and those that follow are a hello and the rest of the stream
record ReadsHello (seen bytes : List ℕ) : Type 0 where
  version : ℕ
  rest : List ℕ
  known : (version ≡ 1) ⊎ (version ≡ 2)
  is : seen ++ bytes ≡ hello_bytes version ++ rest
  goes : front_from (Greeting seen) bytes ≡ front_from (Framing (stream_limit version) 8 []) rest

hello_list : (a b c d e f v z : ℕ) (rest : List ℕ) → a ≡ 0x49 → b ≡ 0x4e → c ≡ 0x43 → d ≡ 0x4c → e ≡ 0x44 → f ≡ 0x52 → z ≡ 0 → a ∷ b ∷ c ∷ d ∷ e ∷ f ∷ v ∷ z ∷ rest ≡ hello_bytes v ++ rest
unfolding hello_bytes
hello_list a b c d e f v z rest a-is b-is c-is d-is e-is f-is z-is = rw (a-is, b-is, c-is, d-is, e-is, f-is, z-is) refl

version_known : (v : ℕ) → eqb v 1 || eqb v 2 ≡ true → (v ≡ 1) ⊎ (v ≡ 2)
version_known v e =
    elim (or_cases (eqb v 1) (eqb v 2) e) [
      | inl one ↦ inl (eqb-true v 1 one)
      | inr two ↦ inr (eqb-true v 2 two)
    ]

-- a byte of the hello before its last
greets : (seen bytes : List ℕ) (count : ℕ) → eqb (length seen) 7 ≡ false → (front_from (Greeting seen) bytes).state ≡ Ended count
    → ((byte : ℕ) (rest : List ℕ) → is_hello_byte (length seen) byte ≡ true → (front_from (Greeting (seen ++ byte ∷ [])) rest).state ≡ Ended count → ReadsHello (seen ++ byte ∷ []) rest)
    → ReadsHello seen bytes
greets seen bytes count early ends later =
    let step = hello_step seen bytes count ends in
    let goes : front_from (Greeting seen) bytes ≡ front_from (Greeting (seen ++ step.byte ∷ [])) step.rest =
    step.goes ∙ ap (λ (last : Bool). front_from (cond last (Framing (stream_limit (get_or seen 6 0)) 8 []) (Greeting (seen ++ step.byte ∷ []))) step.rest) early in
    let read = later step.byte step.rest step.good (sym (state_of _ _ goes) ∙ ends) in
    record {
      version = read.version;
      rest = read.rest;
      known = read.known;
      is = ap (λ (x : List ℕ). seen ++ x) step.is ∙ sym (append_assoc seen (step.byte ∷ []) step.rest) ∙ read.is;
      goes = goes ∙ read.goes;
    }

-- and its last byte
greeted : (a b c d e f v : ℕ) (bytes : List ℕ) (count : ℕ) → eqb a 0x49 ≡ true → eqb b 0x4e ≡ true → eqb c 0x43 ≡ true → eqb d 0x4c ≡ true → eqb e 0x44 ≡ true → eqb f 0x52 ≡ true → eqb v 1 || eqb v 2 ≡ true
    → (front_from (Greeting (a ∷ b ∷ c ∷ d ∷ e ∷ f ∷ v ∷ [])) bytes).state ≡ Ended count → ReadsHello (a ∷ b ∷ c ∷ d ∷ e ∷ f ∷ v ∷ []) bytes
unfolding hello_bytes
greeted a b c d e f v bytes count a-is b-is c-is d-is e-is f-is v-is ends =
    let seen = a ∷ b ∷ c ∷ d ∷ e ∷ f ∷ v ∷ [] in
    let step = hello_step seen bytes count ends in
    record {
      version = v;
      rest = step.rest;
      known = version_known v v-is;
      is =
          ap (λ (x : List ℕ). seen ++ x) step.is
          ∙ hello_list a b c d e f v step.byte step.rest (eqb-true _ _ a-is) (eqb-true _ _ b-is) (eqb-true _ _ c-is) (eqb-true _ _ d-is) (eqb-true _ _ e-is) (eqb-true _ _ f-is) (eqb-true _ _ step.good);
      goes = step.goes;
    }

hello_read : (bytes : List ℕ) (count : ℕ) → (stream_front bytes).state ≡ Ended count → ReadsHello [] bytes
unfolding hello_bytes
hello_read bytes count ends =
    greets [] bytes count refl ends (λ a bytes a-is ends.
    greets (a ∷ []) bytes count refl ends (λ b bytes b-is ends.
    greets (a ∷ b ∷ []) bytes count refl ends (λ c bytes c-is ends.
    greets (a ∷ b ∷ c ∷ []) bytes count refl ends (λ d bytes d-is ends.
    greets (a ∷ b ∷ c ∷ d ∷ []) bytes count refl ends (λ e bytes e-is ends.
    greets (a ∷ b ∷ c ∷ d ∷ e ∷ []) bytes count refl ends (λ f bytes f-is ends.
    greets (a ∷ b ∷ c ∷ d ∷ e ∷ f ∷ []) bytes count refl ends (λ v bytes v-is ends.
    greeted a b c d e f v bytes count a-is b-is c-is d-is e-is f-is v-is ends)))))))

-- ---- a stream

behind_hello : (version : ℕ) (rest : List ℕ) → drop 8 (hello_bytes version ++ rest) ≡ rest
unfolding hello_bytes
behind_hello version rest = refl

hello_length : (version : ℕ) → length (hello_bytes version) ≡ 8
unfolding hello_bytes
hello_length version = refl

version_limit : (version : ℕ) → 8 < stream_limit version
version_limit version = elim (eqb version 2) as (λ second. 8 < cond second (2 ^ 36) (2 ^ 33)) [ true ↦ omega arith | false ↦ omega arith ]

frames_begin : (bytes rest : List ℕ) (version count : ℕ) (pieces : List Piece) → (version ≡ 1) ⊎ (version ≡ 2) → bytes ≡ hello_bytes version ++ rest → SpellsFrames (stream_limit version) 8 [] rest count pieces → BeginsWithStream bytes pieces count
unfolding stream_bytes
frames_begin bytes rest version count pieces known is spells =
    let hello = hello_bytes version in
    let frames = flat_map frame_bytes pieces in
    let len : length (hello ++ frames ++ (2 ∷ [])) ≡ 8 + length frames + 1 = omega (arith, length-append (hello ++ frames) (2 ∷ []), length-append hello frames, hello_length version) in
    record {
      version = version;
      rest = spells.extra;
      stream = record { known = known; each = spells.each; within = omega (arith, len, spells.counted, spells.within) };
      spelled =
          is ∙ ap (λ (x : List ℕ). hello ++ x) spells.spelled
          ∙ sym (append_assoc hello frames (2 ∷ spells.extra))
          ∙ sym (append_assoc (hello ++ frames) (2 ∷ []) spells.extra);
      counted = omega (arith, len, spells.counted);
    }

pub ended_spells : (bytes : List ℕ) (count : ℕ) → AreBytes bytes → (stream_front bytes).state ≡ Ended count → BeginsWithStream bytes (stream_front bytes).pieces count
ended_spells bytes count are ends =
    let hello = hello_read bytes count ends in
    let behind : AreBytes hello.rest = subst AreBytes (behind_hello hello.version hello.rest) (AreBytes-drop 8 (hello_bytes hello.version ++ hello.rest) (subst AreBytes hello.is are)) in
    let limit = stream_limit hello.version in
    let spells = frames_spelled hello.rest limit 8 [] count behind nothing_sound (omega arith) (version_limit hello.version) (sym (state_of _ _ hello.goes) ∙ ends) in
    frames_begin bytes hello.rest hello.version count (stream_front bytes).pieces hello.known hello.is
    (subst (λ (front : StreamFront). SpellsFrames limit 8 [] hello.rest count front.pieces) (sym hello.goes) spells)
