-- What a call of a reader says, from what its bytes make of its stream.
use Rattle.std.proofs.Common.{◌≡◌, ℕ, List, [], ◌++◌, length, Some, None, sym, ap, subst, ◌∙◌}
use Rattle.inc_frame.specs.Fronts.{StreamState, Greeting, Framing, Ended, Faulty, StreamFront, joined_front, front_from, stream_front, fault_of}
use Rattle.inc_frame.specs.declared.piece.Piece.{Piece}
use Rattle.inc_frame.proofs.FrontLemmas.{front_with, front_from-bytes, front_from-faulty}
use Rattle.inc_frame.specs.declared.fault.FrameFault.{FrameFault}
use Rattle.inc_frame.proofs.Counts.{CountsOn, counts_on}

pub joined_bytes : (before bytes : List ℕ) (given pieces : List Piece) (state after : StreamState) → stream_front before ≡ front_with given state → front_from state bytes ≡ front_with pieces after
    → stream_front (before ++ bytes) ≡ front_with (given ++ pieces) after
joined_bytes before bytes given pieces state after e f =
    front_from-bytes (Greeting []) state given before bytes e ∙ ap (λ (front : StreamFront). joined_front given front) f

pub counted_bytes : (state after : StreamState) (pieces : List Piece) (bytes : List ℕ) → front_from state bytes ≡ front_with pieces after → fault_of after ≡ None → CountsOn state after (length bytes)
counted_bytes state after pieces bytes e none =
    let state-is : (front_from state bytes).state ≡ after = ap (λ (front : StreamFront). front.state) e in
    subst (λ (x : StreamState). CountsOn state x (length bytes)) state-is (counts_on state bytes (subst (λ (x : StreamState). fault_of x ≡ None) (sym state-is) none))

-- a stream with a fault stays with it
pub faulty_is : (state : StreamState) (fault : FrameFault) → Some fault ≡ fault_of state → state ≡ Faulty fault
faulty_is (Greeting seen) fault e = absurd cc
faulty_is (Framing limit count rest) fault e = absurd cc
faulty_is (Ended count) fault e = absurd cc
faulty_is (Faulty other) fault e = ap Faulty (let same : Some fault ≡ Some other = e in cc)

pub faulty_front : (state : StreamState) (fault : FrameFault) (bytes : List ℕ) → Some fault ≡ fault_of state → front_from state bytes ≡ front_with [] state
faulty_front state fault bytes e =
    let is = faulty_is state fault e in
    subst (λ (x : StreamState). front_from x bytes ≡ front_with [] x) (sym is) (front_from-faulty fault bytes)
