use Rattle.std.proofs.Common.{◌≡◌, List, [], ◌++◌, ap, sym, ◌∙◌, arith}
use Rattle.std.proofs.lemmas.List.{append-nil}
use Rattle.inc_frame.specs.Fronts.{StreamState, StreamFront, front_from}
use Rattle.inc_frame.specs.declared.piece.Piece.{Piece}
use Rattle.inc_frame.proofs.FrontLemmas.{front_with}
use Rattle.inc_frame.proofs.FedLemmas.{joined_bytes, counted_bytes, faulty_is, faulty_front}
use Rattle.inc_frame.proofs.reader.FrameReader.feed.Goals as goal

pub returns-in-Some-clause-state : goal.returns-in-Some-clause-state
returns-in-Some-clause-state c _ =
    ap (λ (front : StreamFront). front.state) (sym (faulty_front c.args.self.now.state c.in-Some.fault c.args.piece.now (sym c.in-Some.is ∙ c.fault.ensures.value)))

pub returns-in-Some-clause-kept : goal.returns-in-Some-clause-kept
returns-in-Some-clause-kept c _ =
    let none : (front_from c.args.self.now.state c.args.piece.now).pieces ≡ [] =
    ap (λ (front : StreamFront). front.pieces) (faulty_front c.args.self.now.state c.in-Some.fault c.args.piece.now (sym c.in-Some.is ∙ c.fault.ensures.value)) in
    sym (append-nil c.args.self.now.taken) ∙ ap (λ (pieces : List Piece). c.args.self.now.taken ++ pieces) (sym none)

pub returns-in-Some-fault-clause-joined_fault : goal.returns-in-Some-fault-clause-joined_fault
returns-in-Some-fault-clause-joined_fault c before given h _ _ =
    joined_bytes before c.args.piece.now given c.in_ok-pieces.pieces.items c.args.self.now.state c.take_bytes.new.self.state h c.in_ok-pieces.ensures.ok
    ∙ ap (λ (state : StreamState). front_with (given ++ c.in_ok-pieces.pieces.items) state) (faulty_is c.take_bytes.new.self.state c.in-Some-fault.fault (sym c.in-Some-fault.is ∙ c.fault-2.ensures.value))

pub overflow_sub-result : goal.overflow_sub-result
overflow_sub-result c =
    let counts = counted_bytes c.args.self.now.state c.take_bytes.new.self.state c.in_ok-pieces.pieces.items c.args.piece.now c.in_ok-pieces.ensures.ok (sym c.fault-2.ensures.value ∙ c.in_default-fault.is) in
    omega (arith, counts.least, c.count.ensures.value, c.count-before.ensures.value)

pub returns-clause-used : goal.returns-clause-used
returns-clause-used c =
    let counts = counted_bytes c.args.self.now.state c.take_bytes.new.self.state c.in_ok-pieces.pieces.items c.args.piece.now c.in_ok-pieces.ensures.ok (sym c.fault-2.ensures.value ∙ c.in_default-fault.is) in
    omega (arith, counts.least, c.count.ensures.value, c.count-before.ensures.value)

pub returns-clause-whole : goal.returns-clause-whole
returns-clause-whole c going =
    let counts = counted_bytes c.args.self.now.state c.take_bytes.new.self.state c.in_ok-pieces.pieces.items c.args.piece.now c.in_ok-pieces.ensures.ok (sym c.fault-2.ensures.value ∙ c.in_default-fault.is) in
    omega (arith, counts.all (sym c.has_ended.ensures.value ∙ going), c.count.ensures.value, c.count-before.ensures.value)

pub returns-clause-joined : goal.returns-clause-joined
returns-clause-joined c before given h =
    joined_bytes before c.args.piece.now given c.in_ok-pieces.pieces.items c.args.self.now.state c.take_bytes.new.self.state h c.in_ok-pieces.ensures.ok
    ∙ ap (λ (pieces : List Piece). front_with (given ++ pieces) c.take_bytes.new.self.state) (sym c.from_vec.ensures.value)
