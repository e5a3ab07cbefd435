-- The areas of a file as a list of spans.
use Rattle.std.proofs.Common.{◌≡◌, ℕ, Bool, true, false, ◌&&◌, [], ◌∷◌, refl, ap, ◌∙◌}
use Rattle.std.proofs.lemmas.List.Folds.{list_all-append}
use Rattle.inc_bytes.specs.declared.span.Span.{Span}
use Rattle.inc_entry.specs.Spans.{misses, is_clear}
use Rattle.inc_entry.specs.Entry.{Places, areas_of, map_span, tree_span}

and_end : (a b : Bool) → a && (b && true) ≡ a && b
and_end true true = refl
and_end true false = refl
and_end false b = refl

-- clear of each area
pub clear_of_areas : (places : Places) (at n : ℕ)
    → is_clear (areas_of places) at n ≡ is_clear places.spans at n && (misses (map_span places) at n && misses (tree_span places) at n)
clear_of_areas places at n =
    list_all-append (λ (span : Span). misses span at n) places.spans (map_span places ∷ tree_span places ∷ [])
    ∙ ap (λ (b : Bool). is_clear places.spans at n && b) (and_end (misses (map_span places) at n) (misses (tree_span places) at n))
