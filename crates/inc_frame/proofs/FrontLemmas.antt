-- Fronts of streams: bytes after bytes, and a frame that grows by several bytes at once.
use Rattle.std.proofs.Common.{◌≡◌, ℕ, suc, ◌+◌, ◌<◌, ◌≤◌, ◌⊎◌, Bool, true, false, cond, eqb, List, [], ◌∷◌, ◌++◌, length, get_or, take, drop, set, Some, None, refl, sym, ap, subst, ◌∙◌, arith, inl, inr}
use Rattle.std.proofs.lemmas.Bool.{cases_eq, cases_lt, eq-eqb, ne_eqb, le-leb}
use Rattle.std.proofs.lemmas.List.{append-nil, append_assoc, length-append, get_or_append_left, take_more_set, take_all, length-take-le, take-append-drop}
use Rattle.inc_frame.specs.Frames.{hello_bytes, stream_limit, frame_length, piece_of}
use Rattle.inc_frame.specs.Fronts.{StreamState, Greeting, Framing, Ended, Faulty, StreamFront, no_piece, joined_front, hello_front, ends_stream, frame_fault, within_limit, grown_front, frame_front, byte_front, front_from}
use Rattle.inc_frame.specs.declared.piece.Piece.{Piece}
use Rattle.inc_frame.specs.declared.fault.FrameFault.{FrameFault}
use Rattle.inc_frame.specs.declared.fault.FrameFault.TheVariants.{TooLong}

-- ---- bytes after bytes

pub joined_twice : (first second : List Piece) (front : StreamFront) → joined_front first (joined_front second front) ≡ joined_front (first ++ second) front
joined_twice first second front = let front_with : List Piece → StreamFront = λ (pieces : List Piece). record { pieces = pieces; state = front.state } in ap front_with (sym (append_assoc first second front.pieces))

-- however a stream is cut in two, its front is that of the first part, continued over the second
pub front_from-append : (state : StreamState) (first second : List ℕ)
    → front_from state (first ++ second) ≡ joined_front (front_from state first).pieces (front_from (front_from state first).state second)
unfolding front_from
front_from-append state [] second = refl
front_from-append state (byte ∷ first) second =
    let here = byte_front state byte in
    ap (λ (front : StreamFront). joined_front here.pieces front) (front_from-append here.state first second)
    ∙ joined_twice here.pieces (front_from here.state first).pieces (front_from (front_from here.state first).state second)

pub front_from-ended : (count : ℕ) (bytes : List ℕ) → front_from (Ended count) bytes ≡ no_piece (Ended count)
unfolding front_from byte_front
front_from-ended count [] = refl
front_from-ended count (byte ∷ bytes) = front_from-ended count bytes

pub front_from-faulty : (fault : FrameFault) (bytes : List ℕ) → front_from (Faulty fault) bytes ≡ no_piece (Faulty fault)
unfolding front_from byte_front
front_from-faulty fault [] = refl
front_from-faulty fault (byte ∷ bytes) = front_from-faulty fault bytes

-- a byte with which no piece is whole
pub front_from-byte : (state after : StreamState) (byte : ℕ) (bytes : List ℕ) → byte_front state byte ≡ no_piece after → front_from state (byte ∷ bytes) ≡ front_from after bytes
unfolding front_from
front_from-byte state after byte bytes e =
    ap (λ (front : StreamFront). joined_front front.pieces (front_from front.state bytes)) e

-- bytes with which these pieces are whole
pub front_from-bytes : (state after : StreamState) (pieces : List Piece) (bytes more : List ℕ) → front_from state bytes ≡ record { pieces = pieces; state = after }
    → front_from state (bytes ++ more) ≡ joined_front pieces (front_from after more)
front_from-bytes state after pieces bytes more e =
    front_from-append state bytes more
    ∙ ap (λ (front : StreamFront). joined_front front.pieces (front_from front.state more)) e

-- ---- a frame

pub frame_length-append : (frame more : List ℕ) → 25 ≤ length frame → frame_length (frame ++ more) ≡ frame_length frame
frame_length-append frame more le =
    rw (get_or_append_left frame more 0 23 (omega arith), get_or_append_left frame more 0 24 (omega arith)) refl

-- a front of these parts
abbrev pub front_with : List Piece → StreamState → StreamFront
front_with pieces state = record { pieces = pieces; state = state }

by_limit : (full : Bool) (limit count : ℕ) (pieces : List Piece) (state : StreamState)
    → (cond full (no_piece (Faulty (TooLong limit))) (no_piece (Framing limit count []))).state ≡ state
    → cond full (front_with pieces (Faulty (TooLong limit))) (front_with pieces (Framing limit count [])) ≡ front_with pieces state
by_limit true limit count pieces state e = rw e refl
by_limit false limit count pieces state e = rw e refl

-- the pieces stand apart from the limit
pub within_limit-pieces : (limit count : ℕ) (pieces : List Piece) (state : StreamState) → within_limit limit count [] [] ≡ no_piece state → within_limit limit count [] pieces ≡ record { pieces = pieces; state = state }
within_limit-pieces limit count pieces state e =
    let state-is : (within_limit limit count [] []).state ≡ state = ap (λ (front : StreamFront). front.state) e in
    by_limit (eqb count limit) limit count pieces state state-is

pub grown_whole : (limit count : ℕ) (frame : List ℕ) → length frame ≡ 25 + frame_length frame → grown_front limit count frame ≡ within_limit limit count [] (piece_of frame ∷ [])
unfolding grown_front
grown_whole limit count frame e = rw (eq-eqb (length frame) (25 + frame_length frame) e) refl

pub grown_partly : (limit count : ℕ) (frame : List ℕ) → length frame < 25 + frame_length frame → grown_front limit count frame ≡ within_limit limit count frame []
unfolding grown_front
grown_partly limit count frame lt = rw (ne_eqb (length frame) (25 + frame_length frame) (λ e. omega (arith, e))) refl

pub below_limit : (limit count : ℕ) (rest : List ℕ) → count < limit → within_limit limit count rest [] ≡ no_piece (Framing limit count rest)
below_limit limit count rest lt = rw (ne_eqb count limit (λ e. omega (arith, e))) refl

pub at_limit : (limit count : ℕ) (rest : List ℕ) → count ≡ limit → within_limit limit count rest [] ≡ no_piece (Faulty (TooLong limit))
at_limit limit count rest e = rw (eq-eqb count limit e) refl

-- no fault and no end stands among the bytes by which a frame grows
pub record GrowsSoundly (before : ℕ) (frame : List ℕ) : Type 0 where
  pub first : before < 1 → get_or frame 0 0 ≡ 1
  pub kind : before < 18 → 17 < length frame → get_or frame 17 0 ≤ 1
  pub size : before < 25 → 24 < length frame → (1 ≤ frame_length frame) × (frame_length frame ≤ 4096)
  pub short : 24 < length frame → length frame ≤ 25 + frame_length frame

-- the last byte of a frame that is sound so far
sound_byte : (limit place before : ℕ) (frame : List ℕ) → length frame ≡ before + 1 → GrowsSoundly before frame → frame_front limit place frame ≡ grown_front limit (place + 1) frame
unfolding frame_front frame_fault
sound_byte limit place before frame len sound =
    elim (cases_eq before 0) [
      | inl zero ↦
          let one : length frame ≡ 1 = omega arith in
          let kind : get_or frame 0 0 ≡ 1 = sound.first (omega arith) in
          rw (one, kind) refl
      | inr some ↦
          let not-one : eqb (length frame) 1 ≡ false = ne_eqb (length frame) 1 (λ e. some (omega arith)) in
          elim (cases_eq before 17) [
            | inl seventeen ↦
                let len-is : length frame ≡ 18 = omega arith in
                let kind : get_or frame 17 0 ≤ 1 = sound.kind (omega arith) (omega arith) in
                rw (len-is, le-leb _ _ kind) refl
            | inr other ↦
                let not-eighteen : eqb (length frame) 18 ≡ false = ne_eqb (length frame) 18 (λ e. other (omega arith)) in
                elim (cases_eq before 24) [
                  | inl last ↦
                      let len-is : length frame ≡ 25 = omega arith in
                      let size = sound.size (omega arith) (omega arith) in
                      rw (len-is, le-leb _ _ size.0, le-leb _ _ size.1) refl
                  | inr another ↦
                      let not-last : eqb (length frame) 25 ≡ false = ne_eqb (length frame) 25 (λ e. another (omega arith)) in
                      rw (not-one, not-eighteen, not-last) refl
                ]
          ]
    ]

soundly_before : (before : ℕ) (frame more : List ℕ) → 0 < length frame → GrowsSoundly before (frame ++ more) → GrowsSoundly before frame
soundly_before before frame more some sound = record {
  first = λ lt. sym (get_or_append_left frame more 0 0 some) ∙ sound.first lt;
  kind = λ lt long.
      let all-long : 17 < length (frame ++ more) = omega (arith, length-append frame more) in
      let all = sound.kind lt all-long in
      omega (arith, all, get_or_append_left frame more 0 17 long);
  size = λ lt long.
      let all-long : 24 < length (frame ++ more) = omega (arith, length-append frame more) in
      let all = sound.size lt all-long in
      let same = frame_length-append frame more (omega arith) in
      (omega (arith, all.0, same), omega (arith, all.1, same));
  short = λ long.
      let all-long : 24 < length (frame ++ more) = omega (arith, length-append frame more) in
      let all = sound.short all-long in
      let same = frame_length-append frame more (omega arith) in
      omega (arith, all, same, length-append frame more);
}

soundly_after : (before : ℕ) (frame : List ℕ) → GrowsSoundly before frame → GrowsSoundly (before + 1) frame
soundly_after before frame sound = record {
  first = λ lt. absurd (omega arith);
  kind = λ lt long. sound.kind (omega arith) long;
  size = λ lt long. sound.size (omega arith) long;
  short = sound.short;
}

-- a sound frame isn't whole before its last byte
partly_before : (before : ℕ) (frame more : List ℕ) → 0 < length more → GrowsSoundly before (frame ++ more) → length frame < 25 + frame_length frame
partly_before before frame more some sound =
    elim (cases_lt (length frame) 25) [
      | inl lt ↦ omega arith
      | inr le ↦
          let all-long : 24 < length (frame ++ more) = omega (arith, length-append frame more) in
          let all = sound.short all-long in
          let same = frame_length-append frame more le in
          omega (arith, all, same, length-append frame more)
    ]

joined_nil : (front : StreamFront) → joined_front front.pieces (no_piece front.state) ≡ front
joined_nil front = let front_with : List Piece → StreamFront = λ (pieces : List Piece). record { pieces = pieces; state = front.state } in ap front_with (append-nil front.pieces)

-- that a frame of this limit grows by these bytes as by one, whatever stood before
abbrev Grown : ℕ → List ℕ → Type 0
Grown limit bytes =
    (rest : List ℕ) (place : ℕ) → 0 < length bytes → GrowsSoundly (length rest) (rest ++ bytes) → place + length bytes ≤ limit
    → front_from (Framing limit place rest) bytes ≡ grown_front limit (place + length bytes) (rest ++ bytes)

grown_first : (limit byte : ℕ) (bytes : List ℕ) → Grown limit bytes → Grown limit (byte ∷ bytes)
unfolding front_from byte_front
grown_first limit byte [] later rest place some sound within =
    let here = frame_front limit place (rest ++ byte ∷ []) in
    joined_nil here ∙ sound_byte limit place (length rest) (rest ++ byte ∷ []) (omega (arith, length-append rest (byte ∷ []))) sound
grown_first limit byte (next ∷ bytes) later rest place some sound within =
    let frame = rest ++ byte ∷ [] in
    let more = next ∷ bytes in
    let regrouped : frame ++ more ≡ rest ++ byte ∷ more = append_assoc rest (byte ∷ []) more in
    let all : GrowsSoundly (length rest) (frame ++ more) = subst (λ (x : List ℕ). GrowsSoundly (length rest) x) (sym regrouped) sound in
    let len : length frame ≡ length rest + 1 = length-append rest (byte ∷ []) in
    let here : frame_front limit place frame ≡ no_piece (Framing limit (place + 1) frame) =
    sound_byte limit place (length rest) frame len (soundly_before (length rest) frame more (omega arith) all)
    ∙ grown_partly limit (place + 1) frame (partly_before (length rest) frame more (omega arith) all)
    ∙ below_limit limit (place + 1) frame (omega arith) in
    let after : GrowsSoundly (length frame) (frame ++ more) = subst (λ (k : ℕ). GrowsSoundly k (frame ++ more)) (sym len) (soundly_after (length rest) (frame ++ more) all) in
    let counted : place + 1 + length more ≡ place + suc (length more) = omega arith in
    front_from-byte (Framing limit place rest) (Framing limit (place + 1) frame) byte more here
    ∙ later frame (place + 1) (omega arith) after (omega arith)
    ∙ ap (λ (x : List ℕ). grown_front limit (place + 1 + length more) x) regrouped
    ∙ ap (λ (k : ℕ). grown_front limit k (rest ++ byte ∷ more)) counted

pub grows : (limit : ℕ) (bytes : List ℕ) → Grown limit bytes
grows limit [] = λ rest place some. absurd (omega arith)
grows limit (byte ∷ bytes) = grown_first limit byte bytes (grows limit bytes)

-- ---- the block's bytes, where the frame's head has come

body_sound : (head rest bytes : List ℕ) → length head ≡ 25 → length rest + length bytes ≤ frame_length head → GrowsSoundly (length (head ++ rest)) ((head ++ rest) ++ bytes)
body_sound head rest bytes len le =
    let long : 25 ≤ length (head ++ rest) = omega (arith, length-append head rest) in
    record {
      first = λ lt. absurd (omega arith);
      kind = λ lt _. absurd (omega arith);
      size = λ lt _. absurd (omega arith);
      short = λ _.
          let same = frame_length-append (head ++ rest) bytes long ∙ frame_length-append head rest (omega arith) in
          omega (arith, same, length-append (head ++ rest) bytes, length-append head rest);
    }

pub body_partly : (limit place : ℕ) (head rest bytes : List ℕ) → length head ≡ 25 → 0 < length bytes → length rest + length bytes < frame_length head → place + length bytes ≤ limit
    → front_from (Framing limit place (head ++ rest)) bytes ≡ within_limit limit (place + length bytes) (head ++ (rest ++ bytes)) []
body_partly limit place head rest bytes len some lt within =
    let long : 25 ≤ length (head ++ rest) = omega (arith, length-append head rest) in
    let same = frame_length-append (head ++ rest) bytes long ∙ frame_length-append head rest (omega arith) in
    grows limit bytes (head ++ rest) place some (body_sound head rest bytes len (omega arith)) within
    ∙ grown_partly limit (place + length bytes) ((head ++ rest) ++ bytes) (omega (arith, same, length-append (head ++ rest) bytes, length-append head rest))
    ∙ ap (λ (x : List ℕ). within_limit limit (place + length bytes) x []) (append_assoc head rest bytes)

pub body_whole : (limit place : ℕ) (head rest bytes : List ℕ) → length head ≡ 25 → 0 < length bytes → length rest + length bytes ≡ frame_length head → place + length bytes ≤ limit
    → front_from (Framing limit place (head ++ rest)) bytes ≡ within_limit limit (place + length bytes) [] (piece_of (head ++ (rest ++ bytes)) ∷ [])
body_whole limit place head rest bytes len some e within =
    let long : 25 ≤ length (head ++ rest) = omega (arith, length-append head rest) in
    let same = frame_length-append (head ++ rest) bytes long ∙ frame_length-append head rest (omega arith) in
    grows limit bytes (head ++ rest) place some (body_sound head rest bytes len (omega arith)) within
    ∙ grown_whole limit (place + length bytes) ((head ++ rest) ++ bytes) (omega (arith, same, length-append (head ++ rest) bytes, length-append head rest))
    ∙ ap (λ (x : List ℕ). within_limit limit (place + length bytes) [] (piece_of x ∷ [])) (append_assoc head rest bytes)

-- ---- the last byte of a frame's head

pub ended_byte : (limit place : ℕ) (frame : List ℕ) → ends_stream frame ≡ true → frame_front limit place frame ≡ no_piece (Ended (place + 1))
unfolding frame_front
ended_byte limit place frame e = rw e refl

pub faulty_byte : (limit place : ℕ) (frame : List ℕ) (fault : FrameFault) → ends_stream frame ≡ false → frame_fault frame place ≡ Some fault → frame_front limit place frame ≡ no_piece (Faulty fault)
unfolding frame_front
faulty_byte limit place frame fault e f = rw (e, f) refl

pub fine_byte : (limit place : ℕ) (frame : List ℕ) → ends_stream frame ≡ false → frame_fault frame place ≡ None → frame_front limit place frame ≡ grown_front limit (place + 1) frame
unfolding frame_front
fine_byte limit place frame e f = rw (e, f) refl

-- a byte of a head that is kept in an array
pub array_byte : (limit place have byte : ℕ) (head : List ℕ) (after : StreamFront) → have < length head → frame_front limit place (take (have + 1) (set head have byte)) ≡ after → byte_front (Framing limit place (take have head)) byte ≡ after
unfolding byte_front
array_byte limit place have byte head after lt e = ap (λ (frame : List ℕ). frame_front limit place frame) (sym (take_more_set head have byte lt)) ∙ e

pub head_partly : (limit count have : ℕ) (head : List ℕ) → length head ≡ 25 → have ≤ 25 → (have ≡ 25 → (1 ≤ frame_length head) × (frame_length head ≤ 4096)) → grown_front limit count (take have head) ≡ within_limit limit count (take have head) []
head_partly limit count have head len le sound =
    let len-is : length (take have head) ≡ have = length-take-le have head (omega arith) in
    elim (cases_lt have 25) [
      | inl lt ↦ grown_partly limit count (take have head) (omega arith)
      | inr full ↦
          let whole : take have head ≡ head = take_all have head (omega arith) in
          let some = sound (omega arith) in
          grown_partly limit count (take have head) (rw whole (omega (arith, some.0)))
    ]

-- ---- one step of a reader

pub first_byte : (bytes : List ℕ) → 0 < length bytes → bytes ≡ get_or (take 1 bytes) 0 0 ∷ drop 1 bytes
first_byte [] some = absurd (omega arith)
first_byte (byte ∷ bytes) some = refl

pub step_byte : (state after : StreamState) (pieces : List Piece) (bytes first more : List ℕ) → 0 < length bytes → first ≡ take 1 bytes → more ≡ drop 1 bytes → byte_front state (get_or first 0 0) ≡ no_piece after
    → joined_front pieces (front_from after more) ≡ joined_front pieces (front_from state bytes)
step_byte state after pieces bytes first more some first-is more-is e =
    let here : byte_front state (get_or (take 1 bytes) 0 0) ≡ no_piece after = subst (λ (x : List ℕ). byte_front state (get_or x 0 0) ≡ no_piece after) first-is e in
    ap (λ (front : StreamFront). joined_front pieces front)
    (ap (λ (x : List ℕ). front_from after x) more-is
    ∙ sym (front_from-byte state after (get_or (take 1 bytes) 0 0) (drop 1 bytes) here)
    ∙ ap (λ (x : List ℕ). front_from state x) (sym (first_byte bytes some)))

pub step_bytes : (state after : StreamState) (old given : List Piece) (bytes now more : List ℕ) (count : ℕ) → now ≡ take count bytes → more ≡ drop count bytes → front_from state now ≡ record { pieces = given; state = after }
    → joined_front (old ++ given) (front_from after more) ≡ joined_front old (front_from state bytes)
step_bytes state after old given bytes now more count now-is more-is e =
    sym (joined_twice old given (front_from after more))
    ∙ ap (λ (front : StreamFront). joined_front old front)
    (sym (front_from-bytes state after given now more e)
    ∙ ap (λ (x : List ℕ). front_from state x) (ap (λ (x : List ℕ). x ++ more) now-is ∙ ap (λ (x : List ℕ). take count bytes ++ x) more-is ∙ take-append-drop count bytes))

pub step_plain : (state after : StreamState) (old : List Piece) (bytes now more : List ℕ) (count : ℕ) → now ≡ take count bytes → more ≡ drop count bytes → front_from state now ≡ no_piece after
    → joined_front old (front_from after more) ≡ joined_front old (front_from state bytes)
step_plain state after old bytes now more count now-is more-is e =
    ap (λ (pieces : List Piece). joined_front pieces (front_from after more)) (sym (append-nil old))
    ∙ step_bytes state after old [] bytes now more count now-is more-is e

-- ---- all bytes of a call

pub read_all : (state : StreamState) (pieces : List Piece) (rest : List ℕ) (all : StreamFront) → joined_front pieces (front_from state rest) ≡ all → length rest ≡ 0 → all ≡ front_with pieces state
unfolding front_from
read_all state pieces [] all e none = sym e ∙ ap (λ (given : List Piece). front_with given state) (append-nil pieces)
read_all state pieces (byte ∷ rest) all e none = absurd (omega arith)

pub read_none : (state : StreamState) (pieces : List Piece) (bytes : List ℕ) → pieces ≡ [] → length bytes ≡ 0 → front_from state bytes ≡ front_with pieces state
unfolding front_from
read_none state pieces [] e none = ap (λ (given : List Piece). front_with given state) (sym e)
read_none state pieces (byte ∷ bytes) e none = absurd (omega arith)

-- bytes that are all there are, or the last before the limit
pub read_partly : (state after : StreamState) (fault : FrameFault) (pieces : List Piece) (bytes now more : List ℕ) (count : ℕ) → pieces ≡ [] → now ≡ take count bytes → more ≡ drop count bytes → front_from state now ≡ no_piece after
    → (count ≡ length bytes) ⊎ (after ≡ Faulty fault) → front_from state bytes ≡ front_with pieces after
read_partly state after fault pieces bytes now more count none now-is more-is e cases =
    elim cases [
      | inl all ↦
          ap (λ (x : List ℕ). front_from state x) (sym (now-is ∙ take_all count bytes (omega arith))) ∙ e ∙ ap (λ (given : List Piece). front_with given after) (sym none)
      | inr stopped ↦
          let same = step_plain state after [] bytes now more count now-is more-is e in
          let stays : front_from after more ≡ no_piece after = rw stopped (front_from-faulty fault more) in
          sym same ∙ stays ∙ ap (λ (given : List Piece). front_with given after) (sym none)
    ]

pub read_whole : (state next after : StreamState) (piece : Piece) (old given all : List Piece) (bytes now more : List ℕ) (count : ℕ) → old ≡ [] → now ≡ take count bytes → more ≡ drop count bytes
    → front_from state now ≡ front_with (piece ∷ []) next → joined_front old (front_from next more) ≡ front_with given after → all ≡ piece ∷ given → front_from state bytes ≡ front_with all after
read_whole state next after piece old given all bytes now more count none now-is more-is e later all-is =
    let rest : front_from next more ≡ front_with given after = subst (λ (pieces : List Piece). joined_front pieces (front_from next more) ≡ front_with given after) none later in
    sym (step_bytes state next [] (piece ∷ []) bytes now more count now-is more-is e)
    ∙ ap (λ (front : StreamFront). joined_front (piece ∷ []) front) rest
    ∙ ap (λ (pieces : List Piece). front_with pieces after) (sym all-is)

-- ---- the hello and the end

pub hello_front_1 : (more : List ℕ) → front_from (Greeting []) (hello_bytes 1 ++ more) ≡ front_from (Framing (stream_limit 1) 8 []) more
unfolding front_from byte_front hello_front hello_bytes
hello_front_1 more = refl

pub hello_front_2 : (more : List ℕ) → front_from (Greeting []) (hello_bytes 2 ++ more) ≡ front_from (Framing (stream_limit 2) 8 []) more
unfolding front_from byte_front hello_front hello_bytes
hello_front_2 more = refl

pub end_front : (limit place : ℕ) (more : List ℕ) → front_from (Framing limit place []) (2 ∷ more) ≡ no_piece (Ended (place + 1))
unfolding front_from byte_front frame_front
end_front limit place more = front_from-ended (place + 1) more
