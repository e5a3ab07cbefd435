use Rattle.std.proofs.Common.{◌≡◌, ◌∙◌, ap, refl}
use Rattle.std.proofs.lemmas.Bool.{both_ways}
use Rattle.inc_frame.specs.Fronts.{Faulty}
use Rattle.inc_frame.specs.Reader.{ReaderState}
use Rattle.inc_loader.proofs.ReadingLemmas.{taken_in, is_open, not_refused, refused_settled}
use Rattle.inc_loader.proofs.stream.piece_reader.PieceReader.take_in.Goals as goal

pub returns-in-Ok-clause-front : goal.returns-in-Ok-clause-front
returns-in-Ok-clause-front c = λ input rest source_ended read gave h.
    let idle = is_open _ _ _ c.requires.going in
    rw (c.from_vec.ensures.items, c.into_vec.ensures.value, idle.not_refused) (
    taken_in input read _ gave _ c.in-Ok.fed.pieces _ _ _ _ _ _ idle.none_whole h (rw c.deref.ensures.value at c.in-Ok.ensures.joined read gave) (not_refused _ _ _ c.in-Ok.ensures.sound))

pub returns-in_default : goal.returns-in_default
returns-in_default c =
    let idle = is_open _ _ _ c.requires.going in
    let after : c.taken.new.self.state ≡ Faulty c.in-Err.fault =
    ap (λ (r : ReaderState). r.state) c.taken.ensures.after ∙ c.in-Err.ensures.fault c.in_default.not-OutOfMemory in
    record {
      never = λ e. cc;
      going = tt;
      on = λ h. absurd (both_ways _ h (refused_settled c.from_vec-in_default.result.items c.in-Err.fault c.taken.new.self.state));
      front = λ input rest source_ended read gave h.
          rw (c.from_vec-in_default.ensures.items, c.into_vec-in_default.ensures.value, c.taken.ensures.value, after) (
          taken_in input read _ gave _ c.feed.new.self.taken _ _ _ _ _ _ idle.none_whole h
          (λ e. rw c.deref.ensures.value at c.in-Err.ensures.joined_fault read gave e (c.args.self.now.noticed idle.not_refused) c.in_default.not-OutOfMemory) refl);
      fed = refl;
    }
