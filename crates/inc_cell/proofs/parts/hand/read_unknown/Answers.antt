use Rattle.std.proofs.Common.{◌≡◌, ℕ, ◌+◌, true, false, List, ◌∷◌, ◌++◌, [], length, refl, sym, ap, ◌∙◌, length-append}
use Rattle.inc_tree.specs.shape.Geometry.{path_block}
use Rattle.inc_cell.specs.device.Handed.{is_known, unknown_below}
use Rattle.inc_cell.proofs.handing.HandLemmas.{below_new, below_skip, has_more, has_none, has_same, none_below}
use Rattle.inc_cell.proofs.parts.hand.read_unknown.Goals as goal
use Rattle.inc_cell.proofs.parts.hand.read_unknown.Goals.{then-not-contains+in_ok-read_stored+in_ok-push, else-not-contains}

pub loop-level-init : goal.loop-level-init
loop-level-init g c = record {
  kept = refl;
  quiet = refl;
  count = ap (λ (l : List (List ℕ)). length l) c.new-blocks.ensures.items ∙ sym (ap (λ (l : List ℕ). length l) (none_below c.args.areas.now.geometry c.args.block c.args.known.now));
  path = has_none _ c.args.areas.now _ _ (none_below c.args.areas.now.geometry c.args.block c.args.known.now) c.new-blocks.ensures.items;
}

pub loop-level-preserved : goal.loop-level-preserved
loop-level-preserved g c =
    let number_is : c.path_block-hash.result ≡ path_block c.args.areas.now.geometry c.args.block c.loop-level.level = c.path_block-hash.ensures.value in
    elim c.if-not-contains.branch [
      | then-not-contains+in_ok-read_stored+in_ok-push w ↦
          let new : is_known c.args.known.now c.path_block-hash.result ≡ false = sym c.contains.ensures.value ∙ w.if-not-contains.true in
          let more : unknown_below c.args.areas.now.geometry c.args.block c.args.known.now (c.loop-level.level + 1) ≡ unknown_below c.args.areas.now.geometry c.args.block c.args.known.now c.loop-level.level ++ c.path_block-hash.result ∷ [] =
          below_new c.args.areas.now.geometry c.args.block c.args.known.now c.loop-level.level c.path_block-hash.result number_is new in
          let items : c.if-not-contains.blocks.items ≡ c.loop-level.blocks.items ++ w.in_ok-read_stored.field-0 ∷ [] = rw w.blocks-is w.in_ok-push.ensures.items in
          record {
            kept = ap g.B.Backing.kept w.file-is ∙ w.read_stored.ensures.kept ∙ c.loop-level.invariant.kept;
            quiet = ap g.B.Backing.faults w.file-is ∙ w.in_ok-read_stored.ensures.cause.kept (λ e. absurd (cc)) ∙ c.loop-level.invariant.quiet;
            count = ap (λ (l : List (List ℕ)). length l) items ∙ length-append c.loop-level.blocks.items (w.in_ok-read_stored.field-0 ∷ []) ∙ ap (λ (n : ℕ). n + 1) c.loop-level.invariant.count
                ∙ sym (length-append (unknown_below c.args.areas.now.geometry c.args.block c.args.known.now c.loop-level.level) (c.path_block-hash.result ∷ [])) ∙ ap (λ (l : List ℕ). length l) (sym more);
            path =
                has_more (g.B.Backing.reads (g.B.Backing.kept c.args.file.now)) c.args.areas.now (unknown_below c.args.areas.now.geometry c.args.block c.args.known.now c.loop-level.level)
                (unknown_below c.args.areas.now.geometry c.args.block c.args.known.now (c.loop-level.level + 1)) c.path_block-hash.result w.hash_block_at.result c.loop-level.blocks.items c.if-not-contains.blocks.items w.in_ok-read_stored.field-0 more
                items w.hash_block_at.ensures.value c.path_block-hash.ensures.within c.loop-level.invariant.path (rw c.loop-level.invariant.kept at w.in_ok-read_stored.ensures.value);
          }
      | else-not-contains w ↦
          let there : is_known c.args.known.now c.path_block-hash.result ≡ true = sym c.contains.ensures.value ∙ w.if-not-contains.false in
          let same : unknown_below c.args.areas.now.geometry c.args.block c.args.known.now (c.loop-level.level + 1) ≡ unknown_below c.args.areas.now.geometry c.args.block c.args.known.now c.loop-level.level =
          below_skip c.args.areas.now.geometry c.args.block c.args.known.now c.loop-level.level c.path_block-hash.result number_is there in
          let items : c.if-not-contains.blocks.items ≡ c.loop-level.blocks.items = rw w.blocks-is refl in
          record {
            kept = ap g.B.Backing.kept w.file-is ∙ c.loop-level.invariant.kept;
            quiet = ap g.B.Backing.faults w.file-is ∙ c.loop-level.invariant.quiet;
            count = ap (λ (l : List (List ℕ)). length l) items ∙ c.loop-level.invariant.count ∙ ap (λ (l : List ℕ). length l) (sym same);
            path = rw items
                (has_same (g.B.Backing.reads (g.B.Backing.kept c.args.file.now)) c.args.areas.now (unknown_below c.args.areas.now.geometry c.args.block c.args.known.now c.loop-level.level)
                (unknown_below c.args.areas.now.geometry c.args.block c.args.known.now (c.loop-level.level + 1)) c.loop-level.blocks.items same c.loop-level.invariant.path);
          }
    ]
