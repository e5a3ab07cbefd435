-- Two good paths of one index side by side, from the root down: where they part, two blocks have one digest.
use Rattle.std.proofs.Common.{◌≡◌, ◌≢◌, ℕ, suc, ◌-◌, ◌<◌, List, [], length, get_or, sym, ap, ◌∙◌, subst, arith}
use Rattle.std.proofs.lemmas.List.{get_or_read}
use Rattle.std.proofs.lemmas.List.FromFn.{get_or-map-range_with_len}
use Rattle.sha2.specs.Sha256.{sha256}
use Rattle.inc_tree.specs.content_tree.Collision.{IsCollision}
use Rattle.inc_tree.specs.shape.Geometry.{Shape, depth, path_block, path_slot}
use Rattle.inc_tree.specs.read_block.Path.{block_at, slot_of, digest_below, IsProof}
use Rattle.inc_tree.specs.content_tree.Root.{path_through}
use Rattle.inc_tree.proofs.GrowthLemmas.{wanted_here}

pub read_at : (path : List (List ℕ)) (level : ℕ) (block : List ℕ) → level < length path → block ≡ get_or path level block → block ≡ block_at path level
read_at path level block there is = get_or_read path level block there is []

pub read_through : (shape : Shape) (area : List (List ℕ)) (index level place : ℕ) (block : List ℕ) → level < depth shape → place ≡ path_block shape index level
    → place < length area → block ≡ get_or area place block → block ≡ block_at (path_through shape area index) level
read_through shape area index level place block deep place_is there is =
    get_or_read area place block there is []
    ∙ (ap (λ (n : ℕ). get_or area n []) place_is
    ∙ sym (get_or-map-range_with_len (λ l. get_or area (path_block shape index l) []) 0 (depth shape) level level [] deep (omega arith)))

pub collides : (bytes own : List ℕ) (path through : List (List ℕ)) (at : ℕ) (theirs ours : List ℕ) → 0 < at → digest_below bytes path at ≡ digest_below own through at
    → theirs ≡ block_at path (at - 1) → ours ≡ block_at through (at - 1) → length theirs ≡ 4096 → length ours ≡ 4096 → theirs ≢ ours → IsCollision theirs ours
collides bytes own path through at theirs ours some same theirs_is ours_is theirs_whole ours_whole differ =
    let up : at ≡ suc (at - 1) = omega arith in
    let digests : sha256 (block_at path (at - 1)) ≡ sha256 (block_at through (at - 1)) =
    subst (λ (n : ℕ). digest_below bytes path n ≡ digest_below own through n) up same in
    record {
      one_whole = theirs_whole;
      other_whole = ours_whole;
      differ = differ;
      same_digest = ap sha256 theirs_is ∙ (digests ∙ sym (ap sha256 ours_is));
    }

pub same_below : (root other : List ℕ) (shape form : Shape) (index : ℕ) (bytes own : List ℕ) (path through : List (List ℕ)) (level : ℕ) (theirs ours : List ℕ)
    → IsProof root shape index bytes path → IsProof other form index own through → level < length path → level < length through
    → theirs ≡ block_at path level → ours ≡ block_at through level → theirs ≡ ours
    → digest_below bytes path level ≡ digest_below own through level
same_below root other shape form index bytes own path through level theirs ours good mine there here theirs_is ours_is same =
    good.each level (omega arith)
    ∙ (wanted_here root index path level there
    ∙ (ap (λ (b : List ℕ). slot_of b (path_slot index level)) (sym theirs_is ∙ (same ∙ ours_is))
    ∙ (sym (wanted_here other index through level here) ∙ sym (mine.each level (omega arith)))))
