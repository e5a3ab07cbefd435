use Rattle.std.proofs.Common.{◌≡◌, ℕ, List, [], ◌∷◌, ◌+◌, ◌++◌, length, ap, sym, ◌∙◌, arith}
use Rattle.inc_frame.specs.Frames.{piece_of}
use Rattle.inc_frame.specs.Fronts.{joined_front, front_from, within_limit, Framing}
use Rattle.inc_frame.specs.ReaderStages.{stage_state}
use Rattle.inc_frame.specs.declared.piece.Piece.{Piece}
use Rattle.inc_frame.proofs.FrontLemmas.{front_with, step_plain, step_bytes, body_whole, within_limit-pieces}
use Rattle.inc_frame.proofs.reading.body_step.Goals as goal

pub returns-then-len-count-clause-same : goal.returns-then-len-count-clause-same
returns-then-len-count-clause-same c =
    step_plain (Framing c.args.part.limit c.args.part.place (c.args.part.head ++ c.args.part.body.items)) (stage_state c.after_body_bytes.result) c.args.pieces.now.items c.args.bytes.now
    c.split_at.result.0.now c.split_at.result.1.now c.body_bytes-count.result c.split_at.ensures.front c.split_at.ensures.back c.after_body_bytes.ensures.value

pub returns-clause-same : goal.returns-clause-same
returns-clause-same c =
    let state = Framing c.args.part.limit c.args.part.place (c.args.part.head ++ c.args.part.body.items) in
    let now = c.split_at.result.0.now in
    let next = stage_state c.next_frame-next.result in
    let count : c.args.part.place + length now ≡ c.args.part.place + c.body_bytes-count.result = omega (arith, c.split_at.ensures.front_len) in
    let whole : front_from state now ≡ front_with (c.whole_piece.result ∷ []) next =
    body_whole c.args.part.limit c.args.part.place c.args.part.head c.args.part.body.items now (omega arith) (omega arith) (omega arith) (omega arith)
    ∙ ap (λ (k : ℕ). within_limit c.args.part.limit k [] (piece_of (c.args.part.head ++ (c.args.part.body.items ++ now)) ∷ [])) count
    ∙ within_limit-pieces c.args.part.limit (c.args.part.place + c.body_bytes-count.result) (piece_of (c.args.part.head ++ (c.args.part.body.items ++ now)) ∷ []) next c.next_frame-next.ensures.value
    ∙ ap (λ (piece : Piece). front_with (piece ∷ []) next) (sym c.whole_piece.ensures.value) in
    let pushed : c.push.new.self.items ≡ c.args.pieces.now.items ++ c.whole_piece.result ∷ [] = c.in_ok-push.ensures.items in
    ap (λ (pieces : List Piece). joined_front pieces (front_from next c.split_at.result.1.now)) pushed
    ∙ step_bytes state next c.args.pieces.now.items (c.whole_piece.result ∷ []) c.args.bytes.now now c.split_at.result.1.now c.body_bytes-count.result c.split_at.ensures.front c.split_at.ensures.back whole
