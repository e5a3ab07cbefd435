-- A fill of a name by its verdict.
use Rattle.std.proofs.Common.{◌≡◌, ◌≢◌, ℕ, true, false, List, Option, Some, None, Result, Ok, Err, refl, sym, ap, ◌∙◌, subst}
use Rattle.std.specs.Prelude.{IfSome, IfOk, option_map}
use Rattle.std.specs.FinMap.{get}
use Rattle.inc_io.specs.Contents.{Contents}
use Rattle.inc_disk.specs.Log.{Log, contents_of}
use Rattle.inc_frame.specs.declared.piece.Piece.{Piece}
use Rattle.inc_volume.specs.Verdicts.{verdict_of}
use Rattle.inc_volume.specs.declared.verdict.Verdict.{Verdict}
use Rattle.inc_volume.specs.declared.verdict.Verdict.TheVariants as verdict
use Rattle.inc_words.specs.Endings.{Answer, AnswersAs, Ending, EndsAs, leaving, refused}
use Rattle.inc_words.specs.Refusals.{missing}
use Rattle.inc_words.specs.declared.outcome.CommandOutcome.{CommandOutcome}
use Rattle.inc_words.specs.declared.stop.Stop.{Stop}
use Rattle.inc_cmd.specs.Commands.Fill.{fill_answer, fill_by, fill_stored, keeps_own_id}
use Rattle.inc_cmd.specs.Commands.FillMoments.{EndsSettled}
use Rattle.inc_cmd.specs.Runs.{IfLogs}

-- the files stay
pub stays_as : (files : Contents) (ending : Ending) (after : Option Contents) (result : Result CommandOutcome Stop) → after ≡ Some files → IfOk result (EndsAs ending)
    → IfOk result (λ outcome. AnswersAs (leaving files ending) outcome after)
stays_as files ending after (Ok outcome) same ends = record { status_is = ends.status_is; text_is = ends.text_is; after_is = same }
stays_as files ending after (Err why) same ends = tt

-- of a name that is refused
pub refused_told : (told : Option Contents) (left : Option (List ℕ)) (name : List ℕ) (found : Verdict) (result : Result CommandOutcome Stop)
    → ((files : Contents) (given : List ℕ) (after : Option Contents) → after ≡ Some files → IfOk result (λ outcome. AnswersAs (fill_by name files given (Some found)) outcome after))
    → IfSome told (λ files. IfSome left (λ given. IfOk result (λ outcome. outcome.status.0 ≢ 7 → AnswersAs (fill_by name files given (Some found)) outcome told)))
refused_told None left name found result answers = tt
refused_told (Some files) None name found result answers = tt
refused_told (Some files) (Some given) name found (Ok outcome) answers = λ other. answers files given (Some files) refl
refused_told (Some files) (Some given) name found (Err why) answers = tt

own_file : (name : List ℕ) (files : Contents) (given : List ℕ) (found : Verdict) → keeps_own_id (Some found) ≡ true → fill_stored name files given (get files name) ≡ fill_by name files given (Some found)
own_file name files given (verdict.Plain id complete) e = refl
own_file name files given (verdict.Mapped original offset size) e = absurd (cc)
own_file name files given (verdict.SameId id) e = absurd (cc)
own_file name files given (verdict.NoOriginal original) e = absurd (cc)
own_file name files given (verdict.PastOriginal original) e = absurd (cc)
own_file name files given (verdict.Refused fault) e = absurd (cc)

-- of a name whose file keeps its id
pub filled_told : (told now : Option Contents) (left : Option (List ℕ)) (name : List ℕ) (found : Verdict) (result : Result CommandOutcome Stop) → keeps_own_id (Some found) ≡ true
    → IfSome told (λ files. IfSome left (λ given. IfOk result (λ outcome. outcome.status.0 ≢ 7 → AnswersAs (fill_stored name files given (get files name)) outcome now)))
    → IfSome told (λ files. IfSome left (λ given. IfOk result (λ outcome. outcome.status.0 ≢ 7 → AnswersAs (fill_by name files given (Some found)) outcome now)))
filled_told None now left name found result own answers = tt
filled_told (Some files) now None name found result own answers = tt
filled_told (Some files) now (Some given) name found (Ok outcome) own answers = λ other. subst (λ (a : Answer). AnswersAs a outcome now) (own_file name files given found own) (answers other)
filled_told (Some files) now (Some given) name found (Err why) own answers = tt

-- by the verdict that was told
pub judged_told : (told now : Option Contents) (left : Option (List ℕ)) (name : List ℕ) (found : Option Verdict) (result : Result CommandOutcome Stop) → IfSome told (λ files. found ≡ verdict_of files name)
    → IfSome told (λ files. IfSome left (λ given. IfOk result (λ outcome. outcome.status.0 ≢ 7 → AnswersAs (fill_by name files given found) outcome now)))
    → IfSome told (λ files. IfSome left (λ given. IfOk result (λ outcome. outcome.status.0 ≢ 7 → AnswersAs (fill_answer name files given) outcome now)))
judged_told None now left name found result judged answers = tt
judged_told (Some files) now None name found result judged answers = tt
judged_told (Some files) now (Some given) name found (Ok outcome) judged answers = λ other. subst (λ (v : Option Verdict). AnswersAs (fill_by name files given v) outcome now) judged (answers other)
judged_told (Some files) now (Some given) name found (Err why) judged answers = tt

-- of a name that isn't there
pub none_told : (told now : Option Contents) (left : Option (List ℕ)) (name : List ℕ) (result : Result CommandOutcome Stop) → now ≡ told → IfOk result (EndsAs (refused name missing))
    → IfSome told (λ files. IfSome left (λ given. IfOk result (λ outcome. outcome.status.0 ≢ 7 → AnswersAs (fill_by name files given None) outcome now)))
none_told None now left name result same ends = tt
none_told (Some files) now None name result same ends = tt
none_told (Some files) now (Some given) name (Ok outcome) same ends = λ other. record { status_is = ends.status_is; text_is = ends.text_is; after_is = same }
none_told (Some files) now (Some given) name (Err why) same ends = tt

-- such a name has no file that was mounted
pub other_settled : (before after : Option Log) (told : Option Contents) (name : List ℕ) (pieces : Option (List Piece)) (found : Option Verdict) → told ≡ option_map contents_of before
    → IfSome told (λ files. found ≡ verdict_of files name) → keeps_own_id found ≡ false → IfLogs before after (EndsSettled name pieces)
other_settled None after told name pieces found is judged other = tt
other_settled (Some log) None told name pieces found is judged other = tt
other_settled (Some log) (Some new) told name pieces found is judged other = λ plain.
    let same : found ≡ verdict_of (contents_of log) name = subst (λ (t : Option Contents). IfSome t (λ files. found ≡ verdict_of files name)) is judged in
    let both : true ≡ false = sym plain ∙ ap keeps_own_id (sym same) ∙ other in
    absurd (cc)
