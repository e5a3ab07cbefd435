use Rattle.std.proofs.Common.{◌≡◌, ℕ, List, ◌∷◌, [], ◌+◌, ◌++◌, ◌≤◌, length, sym, subst, ◌∙◌}
use Rattle.inc_bytes.specs.Fields.{AreBytes}
use Rattle.inc_frame.specs.Frames.{IsPiece, frame_head, frame_bytes}
use Rattle.inc_frame.specs.Fronts.{Framing, front_from, joined_front, within_limit}
use Rattle.inc_frame.proofs.Spelling.{frame_again}
use Rattle.inc_frame.proofs.writing.write_frame.Goals as goal

abbrev spelled : (c : goal.After-from_vec) → c.from_vec.result ≡ frame_bytes c.args.p.now
unfolding frame_bytes frame_head
spelled c = c.from_vec.ensures.value ∙ (rw c.as_slice-bytes.ensures.value at c.in_ok-frame.ensures.value)

pub returns-clause-value : goal.returns-clause-value
returns-clause-value c = spelled c

pub returns-clause-read_again : goal.returns-clause-read_again
returns-clause-read_again c limit place more within =
    let fits : IsPiece c.args.p.now = record {
      id_length = c.frame_with.ensures.id.0;
      id_bytes = c.frame_with.ensures.id.1;
      number = c.frame_with.ensures.numbers.0;
      compression = c.frame_with.ensures.numbers.1;
      bytes = subst (λ (x : List ℕ). AreBytes x) c.as_slice-bytes.ensures.value c.frame_with.ensures.bytes;
      some = c.requires.some;
      most = c.requires.most;
    } in
    let Again : List ℕ → Type 0 = λ (frame : List ℕ).
    place + length frame ≤ limit
    → front_from (Framing limit place []) (frame ++ more) ≡ joined_front (c.args.p.now ∷ []) (front_from (within_limit limit (place + length frame) [] []).state more) in
    subst Again (sym (spelled c)) (λ le. frame_again c.args.p.now limit place more fits le) within
