use Rattle.std.proofs.Common.{◌∙◌, ℕ, refl, sym, ap, rules}
use Rattle.inc_tree.specs.shape.Geometry.{data_blocks, hash_blocks}
use Rattle.inc_layout.specs.Fresh.{image_of}
use Rattle.inc_words.specs.Texts.{made_line}
use Rattle.inc_cmd.proofs.MakeLemmas.{adds_file, answers_exists, answers_made, leaves_file, leaves_none, lent_out}
use Rattle.inc_cmd.proofs.commands.make.create.Goals as goal

pub close_disk-requires : goal.close_disk-requires
close_disk-requires g c = lent_out _ _ c.args.name.now (rw c.in-Some.is at c.in_ok-disk.ensures.lends)

pub returns-in_err-line-clause-moments : goal.returns-in_err-line-clause-moments
returns-in_err-line-clause-moments g c = leaves_none _ _ _ _ refl

pub returns-in_err-disk-clause-moments : goal.returns-in_err-disk-clause-moments
returns-in_err-disk-clause-moments g c = leaves_none _ _ _ _ c.in_err-disk.ensures.created

pub returns-in_err-made-in-Some-clause-others : goal.returns-in_err-made-in-Some-clause-others
returns-in_err-made-in-Some-clause-others g c =
    adds_file _ _ _ _ _ (rw c.in-Some.is at c.in_ok-disk.ensures.found) (rw c.in-Some.is at c.in_ok-disk.ensures.created) c.close_disk.ensures.logged

pub returns-in_err-made-in-Some-clause-moments : goal.returns-in_err-made-in-Some-clause-moments
returns-in_err-made-in-Some-clause-moments g c =
    leaves_file _ _ _ _ _ _ _ (rw c.in-Some.is at c.in_ok-disk.ensures.states) (rw c.in-Some.is at c.in_ok-disk.ensures.created) c.close_disk.ensures.logged c.put_file-made.ensures.moments

pub returns-in_ok-made-in-Some-clause-others : goal.returns-in_ok-made-in-Some-clause-others
returns-in_ok-made-in-Some-clause-others g c =
    adds_file _ _ _ _ _ (rw c.in-Some.is at c.in_ok-disk.ensures.found) (rw c.in-Some.is at c.in_ok-disk.ensures.created) c.close_disk.ensures.logged

pub returns-in_ok-made-in-Some-clause-moments : goal.returns-in_ok-made-in-Some-clause-moments
returns-in_ok-made-in-Some-clause-moments g c =
    leaves_file _ _ _ _ _ _ _ (rw c.in-Some.is at c.in_ok-disk.ensures.states) (rw c.in-Some.is at c.in_ok-disk.ensures.created) c.close_disk.ensures.logged c.put_file-made.ensures.moments

pub returns-in_ok-made-in-Some-clause-answer : goal.returns-in_ok-made-in-Some-clause-answer
returns-in_ok-made-in-Some-clause-answer g c =
    answers_made _ _ _ _ _ c.args.name.now c.args.tree.now (image_of c.args.image.now) _ _ _ (g.met.S.Shelf.contents_now _) (g.met.S.Shelf.contents_now _)
    (rw c.in-Some.is at c.in_ok-disk.ensures.found) (rw c.in-Some.is at c.in_ok-disk.ensures.states) (rw c.in-Some.is at c.in_ok-disk.ensures.created)
    c.close_disk.ensures.logged c.put_file-made.ensures.moments (search rules) refl
    (c.in_ok-line.ensures.line ∙ ap (λ (n : ℕ). made_line c.args.name.now (data_blocks c.args.tree.now) (hash_blocks c.args.tree.now) n) (sym c.requires.whole))

pub returns-in-None-clause-answer : goal.returns-in-None-clause-answer
returns-in-None-clause-answer g c =
    answers_exists _ _ _ c.args.name.now c.args.tree.now (image_of c.args.image.now) _ (g.met.S.Shelf.contents_now _)
    (ap g.S.ReadShelf.contents (rw c.in-None.is at c.in_ok-disk.ensures.kept)) (rw c.in-None.is at c.in_ok-disk.ensures.found) (rw c.exists.ensures.value at c.refuse.ensures.outcome)

pub returns-in-None-clause-moments : goal.returns-in-None-clause-moments
returns-in-None-clause-moments g c = leaves_none _ _ _ _ (rw c.in-None.is at c.in_ok-disk.ensures.created)
