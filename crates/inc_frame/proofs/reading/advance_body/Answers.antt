use Rattle.std.proofs.Common.{◌≡◌, ℕ, [], ◌∷◌, ◌+◌, ◌++◌, ◌⊎◌, inl, inr, length, ap, sym, ◌∙◌, arith}
use Rattle.std.proofs.lemmas.Bool.{cases_lt, eqb-true}
use Rattle.inc_frame.specs.Frames.{piece_of}
use Rattle.inc_frame.specs.Fronts.{Framing, Faulty, front_from, within_limit}
use Rattle.inc_frame.specs.ReaderStages.{stage_state}
use Rattle.inc_frame.specs.declared.piece.Piece.{Piece}
use Rattle.inc_frame.specs.declared.fault.FrameFault.TheVariants.{TooLong}
use Rattle.inc_frame.proofs.FrontLemmas.{front_with, read_none, read_partly, read_whole, body_whole, within_limit-pieces}
use Rattle.inc_frame.proofs.reading.advance_body.Goals as goal

pub returns-then-is_empty-clause-ok : goal.returns-then-is_empty-clause-ok
returns-then-is_empty-clause-ok c = read_none (Framing c.args.part.limit c.args.part.place (c.args.part.head ++ c.args.part.body.items)) c.args.pieces.now.items c.args.bytes.now c.requires.none (eqb-true (length c.args.bytes.now) 0 (sym c.is_empty.ensures ∙ c.if-is_empty.true))

pub returns-then-len-count-clause-ok : goal.returns-then-len-count-clause-ok
returns-then-len-count-clause-ok c =
    let count = c.body_bytes-count.result in
    let after = stage_state c.after_body_bytes.result in
    let stopped : (count ≡ length c.args.bytes.now) ⊎ (after ≡ Faulty (TooLong c.args.part.limit)) =
    elim (cases_lt (c.args.part.place + count) c.args.part.limit) [
      | inl below ↦ inl (c.body_bytes-count.ensures.all (omega arith) below)
      | inr full ↦ inr (c.after_body_bytes.ensures.full (omega arith))
    ] in
    read_partly (Framing c.args.part.limit c.args.part.place (c.args.part.head ++ c.args.part.body.items)) after (TooLong c.args.part.limit) c.args.pieces.now.items c.args.bytes.now
    c.split_at.result.0.now c.split_at.result.1.now count c.requires.none c.split_at.ensures.front c.split_at.ensures.back c.after_body_bytes.ensures.value stopped

pub returns-clause-ok : goal.returns-clause-ok
returns-clause-ok c =
    let state = Framing c.args.part.limit c.args.part.place (c.args.part.head ++ c.args.part.body.items) in
    let now = c.split_at.result.0.now in
    let next = stage_state c.next_frame-next.result in
    let count : c.args.part.place + length now ≡ c.args.part.place + c.body_bytes-count.result = omega (arith, c.split_at.ensures.front_len) in
    let whole : front_from state now ≡ front_with (c.whole_piece.result ∷ []) next =
    body_whole c.args.part.limit c.args.part.place c.args.part.head c.args.part.body.items now (omega arith) (omega arith) (omega arith) (omega arith)
    ∙ ap (λ (k : ℕ). within_limit c.args.part.limit k [] (piece_of (c.args.part.head ++ (c.args.part.body.items ++ now)) ∷ [])) count
    ∙ within_limit-pieces c.args.part.limit (c.args.part.place + c.body_bytes-count.result) (piece_of (c.args.part.head ++ (c.args.part.body.items ++ now)) ∷ []) next c.next_frame-next.ensures.value
    ∙ ap (λ (piece : Piece). front_with (piece ∷ []) next) (sym c.whole_piece.ensures.value) in
    read_whole state next (stage_state c.in-Ok.after) c.whole_piece.result c.args.pieces.now.items c.read_with_room.new.pieces.items c.put_first.new.pieces.items c.args.bytes.now now c.split_at.result.1.now c.body_bytes-count.result
    c.requires.none c.split_at.ensures.front c.split_at.ensures.back whole c.in-Ok.ensures.value c.put_first.ensures.items
