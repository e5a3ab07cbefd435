-- A text that goes out piece by piece.
use Rattle.std.proofs.Common.{◌≡◌, ℕ, ◌+◌, ◌-◌, ◌≤◌, List, [], ◌++◌, length, take, drop, Option, Some, None, refl, sym, ap, ◌∙◌, arith, append_assoc, length-drop, append-nil}
use Rattle.std.proofs.Math.Seq.{take-length}
use Rattle.std.specs.Prelude.{option_map}
use Rattle.std.proofs.lemmas.List.{take-append-drop, drop-drop}
use Rattle.inc_bytes.proofs.Numbers.{take-then}
use Rattle.inc_io.specs.Writing.{Appends, AppendsFront}

-- what is left of the text, and that all before it was taken
pub record Sent (before after : Option (List ℕ)) (text rest : List ℕ) : Type 0 where
  pub within : length rest ≤ length text
  pub rest_is : rest ≡ drop (length text - length rest) text
  pub sent : Appends before after (take (length text - length rest) text)

appends_more : (before between after : Option (List ℕ)) (front piece : List ℕ) → Appends before between front → Appends between after piece → Appends before after (front ++ piece)
appends_more before between after front piece h k = k ∙ ap (option_map (λ bytes. bytes ++ piece)) h ∙ joined before
  where
    joined : (b : Option (List ℕ)) → option_map (λ bytes. bytes ++ piece) (option_map (λ bytes. bytes ++ front) b) ≡ option_map (λ bytes. bytes ++ (front ++ piece)) b
    joined None = refl
    joined (Some bytes) = ap (λ x. Some x) (append_assoc bytes front piece)

pub sent_none : (before : Option (List ℕ)) (text : List ℕ) → Sent before before text text
sent_none before text =
    let none : length text - length text ≡ 0 = omega arith in
    record { within = omega arith; rest_is = rw none refl; sent = rw none (nothing before) }
  where
    nothing : (b : Option (List ℕ)) → Appends b b []
    nothing None = refl
    nothing (Some bytes) = ap (λ x. Some x) (sym (append-nil bytes))

pub sent_more : (before between after : Option (List ℕ)) (text rest : List ℕ) (count : ℕ) → count ≤ length rest → Sent before between text rest → Appends between after (take count rest)
    → Sent before after text (drop count rest)
sent_more before between after text rest count le s next =
    let left : length (drop count rest) ≡ length rest - count = length-drop count rest in
    let within = s.within in
    let at : length text - length (drop count rest) ≡ (length text - length rest) + count = rw left (omega arith) in
    record {
      within = omega arith;
      rest_is = rw at (ap (drop count) s.rest_is ∙ drop-drop count (length text - length rest) text);
      sent = rw at (rw (take-then count (length text - length rest) text) at (appends_more before between after _ _ s.sent (rw s.rest_is at next)));
    }

pub front_sent : (before after : Option (List ℕ)) (text rest : List ℕ) → Sent before after text rest → AppendsFront before after text
front_sent before after text rest s =
    (take (length text - length rest) text, drop (length text - length rest) text, take-append-drop (length text - length rest) text, s.sent)

pub all_sent : (before after : Option (List ℕ)) (text rest : List ℕ) → Sent before after text rest → length rest ≡ 0 → Appends before after text
all_sent before after text rest s e =
    let whole : length text - length rest ≡ length text = omega arith in
    rw (whole, take-length text) at s.sent
