-- The spans of a reader line, as far as its fields are read, and how many reads they are.
use Rattle.std.proofs.Common.{◌≡◌, ℕ, ◌+◌, ◌<◌, ◌≤◌, List, [], ◌∷◌, ◌++◌, length, take, get_or, Option, Some, None, refl, sym, ap, ◌∙◌, append_assoc, append-nil}
use Rattle.std.proofs.lemmas.List.Sums.{sum_by_more, sum_by-take-le}
use Rattle.inc_script.specs.Forms.{block_span, block_spans, with_span}
use Rattle.inc_script.specs.Limits.{reads_in, sum_of_reads}

-- these spans, and then those
abbrev pub with_front : List (ℕ × ℕ) → Option (List (ℕ × ℕ)) → Option (List (ℕ × ℕ))
with_front front None = None
with_front front (Some spans) = Some (front ++ spans)

pub front_none : (told : Option (List (ℕ × ℕ))) → with_front [] told ≡ told
front_none None = refl
front_none (Some spans) = refl

one_more : (front : List (ℕ × ℕ)) (span : ℕ × ℕ) (told : Option (List (ℕ × ℕ))) → with_front (front ++ span ∷ []) told ≡ with_front front (with_span (Some span) told)
one_more front span None = refl
one_more front span (Some spans) = ap (λ (xs : List (ℕ × ℕ)). Some xs) (append_assoc front (span ∷ []) spans)

pub front_more : (front : List (ℕ × ℕ)) (word : List ℕ) (words : List (List ℕ)) (span : ℕ × ℕ) → block_span word ≡ Some span
    → with_front (front ++ span ∷ []) (block_spans words) ≡ with_front front (block_spans (word ∷ words))
front_more front word words span is = one_more front span (block_spans words) ∙ ap (λ (told : Option (ℕ × ℕ)). with_front front (with_span told (block_spans words))) (sym is)

pub front_misfit : (front : List (ℕ × ℕ)) (word : List ℕ) (words : List (List ℕ)) → block_span word ≡ None → with_front front (block_spans (word ∷ words)) ≡ None
front_misfit front word words is = ap (λ (told : Option (ℕ × ℕ)). with_front front (with_span told (block_spans words))) is

pub front_all : (front : List (ℕ × ℕ)) → with_front front (block_spans []) ≡ Some front
front_all front = ap (λ (xs : List (ℕ × ℕ)). Some xs) (append-nil front)

-- ---- counting

pub counted_more : (spans : List (ℕ × ℕ)) (at : ℕ) (d : ℕ × ℕ) → at < length spans → sum_of_reads (take (at + 1) spans) ≡ sum_of_reads (take at spans) + reads_in (get_or spans at d)
counted_more spans at d lt = sum_by_more reads_in spans at d lt

pub counted_front : (spans : List (ℕ × ℕ)) (at : ℕ) → sum_of_reads (take at spans) ≤ sum_of_reads spans
counted_front spans at = sum_by-take-le reads_in spans at
