-- Bytes that a reader took in, after those before them.
use Rattle.std.proofs.Common.{◌≡◌, ℕ, Bool, true, false, not, ◌||◌, eqb, List, [], ◌++◌, length, take, Option, Some, None, refl, ap, sym, ◌∙◌, subst, append-nil, append_assoc}
use Rattle.std.specs.Option.{is_some}
use Rattle.std.proofs.lemmas.Bool.{both_ways, eqb-true}
use Rattle.std.proofs.lemmas.List.{nil_from_length}
use Rattle.inc_frame.specs.Fronts.{StreamState, Greeting, Framing, Ended, Faulty, StreamFront, front_from, stream_front, has_ended, fault_of}
use Rattle.inc_frame.specs.declared.piece.Piece.{Piece}
use Rattle.inc_frame.specs.declared.fault.FrameFault.{FrameFault}
use Rattle.inc_loader.specs.Reading.{IsReadStream, IsRefusedStream, before_rest, needs_no_read}

abbrev the_front : List Piece → StreamState → StreamFront
the_front pieces state = record { pieces = pieces; state = state }

joined_rest : (first second : List ℕ) (rest : Option (List ℕ)) → before_rest first (before_rest second rest) ≡ before_rest (first ++ second) (before_rest [] rest)
joined_rest first second None = refl
joined_rest first second (Some left) = ap (λ x. Some x) (sym (append_assoc first second left))

nothing_before : (rest : Option (List ℕ)) → rest ≡ before_rest [] (before_rest [] rest)
nothing_before None = refl
nothing_before (Some bytes) = refl

read_none : (left : Option (List ℕ)) (source_ended : Bool) → IsReadStream left [] [] [] (Greeting []) None source_ended (before_rest [] left)
unfolding front_from
read_none left source_ended = record { input_is = nothing_before left; front_is = refl; refused_is = tt }

-- before the first byte
pub fresh_read : (left now : Option (List ℕ)) (room : List ℕ) (filled : ℕ) (whole : List Piece) (state : StreamState) (refused : Option FrameFault) (source_ended : Bool)
    → now ≡ left → filled ≡ 0 → whole ≡ [] → state ≡ Greeting [] → refused ≡ None → IsReadStream left [] [] whole state refused source_ended (before_rest (take filled room) now)
fresh_read left now room filled whole state refused source_ended same none no_piece begun fine =
    rw (same, none, no_piece, begun, fine) (read_none left source_ended)

-- further bytes after further bytes
pub read_joined : (input : Option (List ℕ)) (read first : List ℕ) (gave whole : List Piece) (state : StreamState) (refused : Option FrameFault) (source_ended : Bool) (coming : Option (List ℕ))
    → ((more : List ℕ) × IsReadStream input ((read ++ first) ++ more) gave whole state refused source_ended coming)
    → (more : List ℕ) × IsReadStream input (read ++ more) gave whole state refused source_ended coming
read_joined input read first gave whole state refused source_ended coming h =
    (first ++ h.0, subst (λ (bytes : List ℕ). IsReadStream input bytes gave whole state refused source_ended coming) (append_assoc read first h.0) h.1)

pub not_refused : (state : StreamState) (source_ended : Bool) (coming : Option (List ℕ)) → fault_of state ≡ None → IsRefusedStream state source_ended coming None
not_refused (Faulty own) source_ended coming fine = absurd cc
not_refused (Ended count) source_ended coming fine = refl
not_refused (Greeting seen) source_ended coming fine = tt
not_refused (Framing limit count rest) source_ended coming fine = tt

-- what was taken in where no piece was whole before
pub taken_in : (input : Option (List ℕ)) (read bytes : List ℕ) (gave old pieces : List Piece) (before after : StreamState) (refused now : Option FrameFault) (source_ended : Bool)
    (rest : Option (List ℕ)) → old ≡ [] → IsReadStream input read gave old before refused source_ended (before_rest bytes rest)
    → (stream_front read ≡ record { pieces = gave; state = before } → stream_front (read ++ bytes) ≡ record { pieces = gave ++ pieces; state = after })
    → IsRefusedStream after source_ended (before_rest [] rest) now
    → (more : List ℕ) × IsReadStream input (read ++ more) gave pieces after now source_ended (before_rest [] rest)
taken_in input read bytes gave old pieces before after refused now source_ended rest none h on fault =
    let all : gave ++ old ≡ gave = ap (λ (ps : List Piece). gave ++ ps) none ∙ append-nil gave in (
      bytes,
      record {
        input_is = h.input_is ∙ joined_rest read bytes rest;
        front_is = on (h.front_is ∙ ap (λ (ps : List Piece). the_front ps before) all);
        refused_is = fault;
      },
    )

-- the first of the whole pieces were given
pub first_given : (input : Option (List ℕ)) (read : List ℕ) (gave whole pieces left : List Piece) (state : StreamState) (refused : Option FrameFault) (source_ended : Bool) (coming : Option (List ℕ))
    → whole ≡ pieces ++ left → IsReadStream input read gave whole state refused source_ended coming → IsReadStream input read (gave ++ pieces) left state refused source_ended coming
first_given input read gave whole pieces left state refused source_ended coming is h = record {
  input_is = h.input_is;
  front_is = h.front_is ∙ ap (λ (ps : List Piece). the_front ps state) (ap (λ (ps : List Piece). gave ++ ps) is ∙ sym (append_assoc gave pieces left));
  refused_is = h.refused_is;
}

whole_or : (refused ended : Bool) → (true || refused || ended) ≡ true
whole_or true true = refl
whole_or true false = refl
whole_or false true = refl
whole_or false false = refl

refused_or : (whole ended : Bool) → (whole || true || ended) ≡ true
refused_or true ended = whole_or true ended
refused_or false true = refl
refused_or false false = refl

pub refused_settled : (whole : List Piece) (fault : FrameFault) (state : StreamState) → needs_no_read whole (Some fault) state ≡ true
refused_settled whole fault state = refused_or (not (eqb (length whole) 0)) (has_ended state)

-- what is so while more is to be read
pub record IsOpen (whole : List Piece) (refused : Option FrameFault) (state : StreamState) : Type 0 where
  pub none_whole : whole ≡ []
  pub not_refused : refused ≡ None
  pub not_ended : has_ended state ≡ false

by_parts : (none : Bool) (refused : Option FrameFault) (ended : Bool) → (not none || is_some refused || ended) ≡ false → (none ≡ true) × (refused ≡ None) × (ended ≡ false)
by_parts true None ended h = (refl, refl, h)
by_parts true (Some fault) ended h = absurd (both_ways _ h (refused_or false ended))
by_parts false None ended h = absurd (both_ways _ h (whole_or false ended))
by_parts false (Some fault) ended h = absurd (both_ways _ h (whole_or true ended))

pub is_open : (whole : List Piece) (refused : Option FrameFault) (state : StreamState) → needs_no_read whole refused state ≡ false → IsOpen whole refused state
is_open whole refused state h =
    let parts = by_parts (eqb (length whole) 0) refused (has_ended state) h in
    record {
      none_whole = nil_from_length whole (eqb-true (length whole) 0 parts.0);
      not_refused = parts.1;
      not_ended = parts.2;
    }
