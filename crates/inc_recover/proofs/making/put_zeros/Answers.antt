use Rattle.std.proofs.Common.{◌≡◌, ◌+◌, List, ℕ, refl, sym, ◌∙◌, ap, subst, arith, length}
use Rattle.std.proofs.lemmas.List.{append-nil, length-replicate}
use Rattle.inc_disk.specs.Disk.{Now}
use Rattle.inc_recover.specs.Making.{IsUnmarked}
use Rattle.inc_recover.proofs.Made.{grows_by_none, longer_told, next_zeros, told_same, zeros_left}
use Rattle.inc_recover.proofs.making.put_zeros.Goals as goal

pub loop-done-init : goal.loop-done-init
loop-done-init g c = record {
  within = omega arith;
  quiet = refl;
  place = told_same _ c.args.from (c.args.from + 0) (omega arith) c.requires.place;
  made = λ rest is has. subst (λ (b : List ℕ). Now (g.D.Disk.states (g.D.Backing.kept c.args.disk.now)) (IsUnmarked b)) (sym (append-nil rest)) has;
  moments = λ rest image is has. grows_by_none rest image _ has;
}

pub returns-in_err-write_at-clause-moments : goal.returns-in_err-write_at-clause-moments
returns-in_err-write_at-clause-moments g c rest image is has =
    zeros_left c.args.from c.loop-done.done rest image _ _ _ _ _ is c.write_at.ensures.written (c.loop-done.invariant.moments rest image is has) (c.loop-done.invariant.made rest is has)

pub loop-done-preserved : goal.loop-done-preserved
loop-done-preserved g c =
    let piece_len : length c.zero_piece.result.now ≡ c.min-wanted.result = ap (λ (b : List ℕ). length b) c.zero_piece.ensures.value ∙ length-replicate {A = ℕ} c.min-wanted.result 0 in
    record {
      within = omega (arith, c.min-wanted.ensures, c.loop-done-test.true);
      quiet = c.in_ok-write_at.ensures.cause.kept ∙ c.loop-done.invariant.quiet;
      place = rw (g.met.D.Disk.reads_now (g.D.Backing.kept c.write_at.new.self))
          (longer_told _ (c.args.from + c.loop-done.done) _ c.zero_piece.result.now _ _ c.in_ok-write_at.ensures.written (omega (arith, piece_len))
          (rw (g.met.D.Disk.reads_now (g.D.Backing.kept c.loop-done.disk)) at c.loop-done.invariant.place));
      made = λ rest is has. next_zeros _ c.args.from c.loop-done.done _ rest c.zero_piece.result.now _ _ is c.zero_piece.ensures.value c.in_ok-write_at.ensures.written (c.loop-done.invariant.made rest is has);
      moments = λ rest image is has.
          zeros_left c.args.from c.loop-done.done rest image _ _ _ _ _ is c.write_at.ensures.written (c.loop-done.invariant.moments rest image is has) (c.loop-done.invariant.made rest is has);
    }
