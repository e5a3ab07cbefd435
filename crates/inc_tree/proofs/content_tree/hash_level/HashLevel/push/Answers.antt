use Rattle.std.proofs.Common.{◌≡◌, ◌/◌, ◌%◌, ◌∷◌, [], ◌++◌, ℕ, length, ap, ◌∙◌, arith, length-append}
use Rattle.inc_tree.specs.content_tree.Root.{level_over}
use Rattle.inc_tree.proofs.RootLemmas.{open_level, open_put, opened_by_zeros, open_already, digests_more}
use Rattle.inc_tree.proofs.content_tree.hash_level.HashLevel.push.Goals as goal
use Rattle.inc_tree.proofs.content_tree.hash_level.HashLevel.push.Goals.{then-slot-eq0+in_ok-zeros+in_ok-push, else-slot-eq0}

pub returns-clause-put : goal.returns-clause-put
returns-clause-put c = λ digests keeps.
    let count = c.args.self.now.count in
    let digest = c.args.digest.now in
    let last : count / 128 ≡ length digests / 128 = ap (λ (n : ℕ). n / 128) keeps.count_is in
    let slot : count % 128 ≡ length digests % 128 = ap (λ (n : ℕ). n % 128) keeps.count_is in
    let opened : c.if-slot-eq0.self.1.1.1.0.items ≡ open_level digests (count / 128) =
    elim c.if-slot-eq0.branch [
      | then-slot-eq0+in_ok-zeros+in_ok-push w ↦
          ap (λ s. s.1.1.1.0.items) w.self-is
          ∙ (w.in_ok-push.ensures.items
          ∙ (ap (λ bs. bs ++ w.in_ok-zeros.field-0 ∷ []) keeps.blocks_are
          ∙ (ap (λ b. level_over digests ++ b ∷ []) w.in_ok-zeros.ensures.value ∙ opened_by_zeros digests (count / 128) last (omega arith))))
      | else-slot-eq0 w ↦
          ap (λ s. s.1.1.1.0.items) w.self-is ∙ (keeps.blocks_are ∙ open_already digests (count / 128) last (omega arith))
    ] in
    record {
      count_is = omega (arith, keeps.count_is, length-append digests (digest ∷ []));
      sized = digests_more digests digest keeps.sized c.told-digest;
      blocks_are = open_put digests digest _ _ _ (count / 128) (count % 128) opened last slot keeps.sized c.told-digest c.index_mut.ensures.value c.put_digest.ensures.value;
    }
