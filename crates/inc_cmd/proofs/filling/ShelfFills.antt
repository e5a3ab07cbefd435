-- A fill of a shelf's file: the disk is lent, filled and given back.
use Rattle.std.proofs.Common.{◌≡◌, ◌≢◌, inl, inr, ⊎_elim, ℕ, suc, ◌-◌, ◌≤◌, Bool, true, false, cond, List, [], ◌∷◌, ◌++◌, length, Option, Some, None, Result, Ok, Err, refl, sym, ap, ◌∙◌, subst, arith}
use Rattle.std.specs.Prelude.{IfSome, IfOk, is_some, option_map}
use Rattle.std.specs.Option.{option_to_list}
use Rattle.std.specs.Str.{bytes_eq}
use Rattle.std.specs.Cmp.Lexicographic.{texts_ties, nat_list_cmp_total}
use Rattle.std.specs.FinMap.{get, get-insert, insert, same_map, slice_cmp-IsAntisymmetric, nat_cmp-IsAntisymmetric}
use Rattle.inc_io.specs.Contents.{Contents}
use Rattle.inc_disk.specs.Disk.{DiskState, MayHaveLeft, Now, reads_of}
use Rattle.inc_disk.specs.Log.{IsImageOf, Log, MayHaveLeftFile, MayHaveLeftOf, contents_of, entries_of, newest_of}
use Rattle.inc_disk.proofs.LogLemmas.{get_contents, joins_images, newest_other, newest_same}
use Rattle.inc_frame.specs.declared.piece.Piece.{Piece}
use Rattle.inc_layout.specs.declared.opened.Opened.{Opened}
use Rattle.inc_words.specs.Endings.{AnswersAs, EndsAs, refused}
use Rattle.inc_words.specs.Refusals.{missing}
use Rattle.inc_words.specs.declared.outcome.CommandOutcome.{CommandOutcome}
use Rattle.inc_words.specs.declared.stop.Stop.{Stop}
use Rattle.inc_words.specs.declared.stop.Stop.TheVariants as stop
use Rattle.inc_cmd.specs.Commands.Fill.{EndsFull, fill_stored, fill_over, fillable_of}
use Rattle.inc_cmd.specs.Commands.FillMoments.{EndsAcknowledged, EndsSettled, ExtendsOnly, KeepsReached, LeavesFilled, LeavesOld, stream_pieces}
use Rattle.inc_cmd.specs.FilledDisks.{AnswersFile, FillsDisk, LeavesDisk, ReachesSince, StaysAsLent}
use Rattle.inc_cmd.specs.Runs.{IfLogs, status_of}
use Rattle.inc_cmd.proofs.MakeLemmas.{not_later}

-- ---- a shelf that stays as it is

now_image : (name : List ℕ) (log : Log) (image : Option (List ℕ)) → MayHaveLeftOf name (length log) log image → IsImageOf (newest_of name log) image
now_image name [] image left = left.1
now_image name (entry ∷ past) image (inl here) = here.1
now_image name (entry ∷ past) image (inr there) = absurd (let late : suc (length past) ≤ length past = not_later name (suc (length past)) past image there in omega arith)

pub same_extends : (before after : Option Log) (name : List ℕ) → after ≡ before → IfLogs before after (ExtendsOnly name)
same_extends None after name same = tt
same_extends (Some log) after name same = subst (λ (now : Option Log). IfSome now (ExtendsOnly name log)) (sym same) (record { absent = λ e. refl; own = ([], refl) })

pub same_leaves : (before after : Option Log) (name : List ℕ) (pieces : Option (List Piece)) → after ≡ before → IfLogs before after (LeavesFilled name pieces)
same_leaves None after name pieces same = tt
same_leaves (Some log) after name pieces same = subst (λ (now : Option Log). IfSome now (LeavesFilled name pieces log)) (sym same) (inl (now_image name log))

none_there : (newest : Option DiskState) (first : DiskState) → false ≡ is_some newest → newest ≡ Some first → ⊥
none_there None first e is = absurd (cc)
none_there (Some disk) first e is = absurd (cc)

pub missing_settled : (before after : Option Log) (name : List ℕ) (pieces : Option (List Piece)) → after ≡ before → IfSome before (λ log. false ≡ is_some (newest_of name log)) → IfLogs before after (EndsSettled name pieces)
missing_settled None after name pieces same none = tt
missing_settled (Some log) after name pieces same none =
    subst (λ (now : Option Log). IfSome now (EndsSettled name pieces log)) (sym same) (λ plain first opened stood judged. absurd (none_there (newest_of name log) first none stood))

pub stopped_settled : {P : Type 0} (why : Stop) → status_of (Err why) ≢ 5 → status_of (Err why) ≢ 6 → P
stopped_settled stop.Fault five six = absurd (five refl)
stopped_settled stop.OutOfMemory five six = absurd (six refl)

-- ---- a name that isn't there

no_file : (log : Log) (name : List ℕ) → false ≡ is_some (newest_of name log) → get (contents_of log) name ≡ None
no_file log name none = get_contents log name ∙ mapped (newest_of name log) none
  where
    mapped : (newest : Option DiskState) → false ≡ is_some newest → option_map (λ (d : DiskState). d.reads) newest ≡ None
    mapped None e = refl
    mapped (Some disk) e = absurd (cc)

missing_answer : (name : List ℕ) (files : Contents) (given : List ℕ) (stored : Option (List ℕ)) (now : Option Contents) (outcome : CommandOutcome) → stored ≡ None → now ≡ Some files
    → EndsAs (refused name missing) outcome → AnswersAs (fill_stored name files given stored) outcome now
missing_answer name files given (Some bytes) now outcome none same ends = absurd (cc)
missing_answer name files given None now outcome none same ends = record { status_is = ends.status_is; text_is = ends.text_is; after_is = same }

pub missing_answers : (told now : Option Contents) (log : Option Log) (left : Option (List ℕ)) (name : List ℕ) (result : Result CommandOutcome Stop) → told ≡ option_map contents_of log → now ≡ told
    → IfSome log (λ entries. false ≡ is_some (newest_of name entries)) → IfOk result (EndsAs (refused name missing))
    → IfSome told (λ files. IfSome left (λ given. IfOk result (λ outcome. outcome.status.0 ≢ 7 → AnswersAs (fill_stored name files given (get files name)) outcome now)))
missing_answers told now None left name result is same none ends =
    subst (λ (t : Option Contents). IfSome t (λ files. IfSome left (λ given. IfOk result (λ outcome. outcome.status.0 ≢ 7 → AnswersAs (fill_stored name files given (get files name)) outcome now)))) (sym is) tt
missing_answers told now (Some log) left name result is same none ends =
    subst (λ (t : Option Contents). IfSome t (λ files. IfSome left (λ given. IfOk result (λ outcome. outcome.status.0 ≢ 7 → AnswersAs (fill_stored name files given (get files name)) outcome now)))) (sym is)
    (by_given left result ends)
  where
    by_given : (left : Option (List ℕ)) (result : Result CommandOutcome Stop) → IfOk result (EndsAs (refused name missing))
        → IfSome left (λ given. IfOk result (λ outcome. outcome.status.0 ≢ 7 → AnswersAs (fill_stored name (contents_of log) given (get (contents_of log) name)) outcome now))
    by_given None result ends = tt
    by_given (Some given) (Err why) ends = tt
    by_given (Some given) (Ok outcome) ends = λ other. missing_answer name (contents_of log) given (get (contents_of log) name) now outcome (no_file log name none) (same ∙ is) ends

three_full : (told : Option Contents) (left : Option (List ℕ)) (name : List ℕ) (now : Option Contents) (result : Result CommandOutcome Stop) → IfOk result (λ outcome. outcome.status.0 ≡ 3)
    → IfSome told (λ files. IfSome left (λ given. IfOk result (λ outcome. outcome.status.0 ≡ 7 → EndsFull name files given now)))
three_full None left name now result three = tt
three_full (Some files) None name now result three = tt
three_full (Some files) (Some given) name now (Err why) three = tt
three_full (Some files) (Some given) name now (Ok outcome) three = λ seven. absurd (omega arith)

pub missing_full : (told : Option Contents) (left : Option (List ℕ)) (name : List ℕ) (now : Option Contents) (result : Result CommandOutcome Stop) → IfOk result (λ outcome. outcome.status.0 ≡ 3)
    → IfSome told (λ files. IfSome left (λ given. IfOk result (λ outcome. outcome.status.0 ≡ 7 → EndsFull name files given now)))
missing_full = three_full

-- ---- a disk that is given back

-- the state in which it was lent
pub record WasLent (newest : Option DiskState) (lent : List DiskState) : Type 0 where
  pub first : DiskState
  pub stood : newest ≡ Some first
  pub lent_is : lent ≡ first ∷ []

was_lent : (newest : Option DiskState) (lent : List DiskState) → true ≡ is_some newest → lent ≡ option_to_list newest → WasLent newest lent
was_lent None lent found is = absurd (cc)
was_lent (Some first) lent found is = record { first = first; stood = refl; lent_is = is }

by_name : (name other bytes : List ℕ) (disk : DiskState) (past : List DiskState) (log : Log) (same : Bool) → bytes_eq other name ≡ same → disk.reads ≡ bytes
    → option_map (λ (d : DiskState). d.reads) (newest_of other (entries_of name (disk ∷ past) ++ log)) ≡ cond same (Some bytes) (get (contents_of log) other)
by_name name other bytes disk past log true is reads = ap (option_map (λ (d : DiskState). d.reads)) (newest_same other name disk past log is) ∙ ap (λ (b : List ℕ). Some b) reads
by_name name other bytes disk past log false is reads = ap (option_map (λ (d : DiskState). d.reads)) (newest_other other name (disk ∷ past) log is) ∙ sym (get_contents log other)

with_bytes : (name bytes : List ℕ) (disk : DiskState) (past : List DiskState) (log : Log) → disk.reads ≡ bytes → contents_of (entries_of name (disk ∷ past) ++ log) ≡ insert (contents_of log) name bytes
with_bytes name bytes disk past log reads =
    same_map nat_list_cmp_total (slice_cmp-IsAntisymmetric nat_cmp-IsAntisymmetric) _ _ (λ (other : List ℕ).
    get_contents (entries_of name (disk ∷ past) ++ log) other
    ∙ by_name name other bytes disk past log (bytes_eq other name) refl reads
    ∙ ap (λ (b : Bool). cond b (Some bytes) (get (contents_of log) other)) (texts_ties other name)
    ∙ sym (get-insert nat_list_cmp_total (contents_of log) name bytes other))

now_stands : (name bytes : List ℕ) (new : List DiskState) (log : Log) → reads_of new ≡ Some bytes → contents_of (entries_of name new ++ log) ≡ insert (contents_of log) name bytes
now_stands name bytes [] log reads = absurd (cc)
now_stands name bytes (disk ∷ past) log reads = with_bytes name bytes disk past log (let same : disk.reads ≡ bytes = cc in same)

stored_is : (name : List ℕ) (log : Log) (first : DiskState) → newest_of name log ≡ Some first → get (contents_of log) name ≡ Some first.reads
stored_is name log first stood = get_contents log name ∙ ap (option_map (λ (d : DiskState). d.reads)) stood

from_first : (states : List DiskState) (bytes : List ℕ) → MayHaveLeft 0 states bytes → MayHaveLeft 1 states bytes
from_first [] bytes left = left
from_first (disk ∷ past) bytes (inl here) = inl (omega arith, here.1)
from_first (disk ∷ past) bytes (inr there) = inr (from_first past bytes there)

module _ (name : List ℕ) (log : Log) (new : List DiskState) (first : DiskState) (stood : newest_of name log ≡ Some first) where
  stays_old : StaysAsLent first new → LeavesOld name log (entries_of name new ++ log)
  stays_old stays image left = ⊎_elim (now_image name log image) (of_disk image) ((joins_images name new log).each (length log) image left)
    where
      of_disk : (image : Option (List ℕ)) → MayHaveLeftFile (length log - length log) new image → IsImageOf (newest_of name log) image
      of_disk None none = absurd none
      of_disk (Some bytes) here =
          let start : length log - length log ≡ 0 = omega arith in
          subst (λ (newest : Option DiskState). IsImageOf newest (Some bytes)) (sym stood) (stays bytes (from_first new bytes (subst (λ (moment : ℕ). MayHaveLeft moment new bytes) start here)))

  reached : (pieces : Option (List Piece)) → ReachesSince pieces first new → LeavesFilled name pieces log (entries_of name new ++ log)
  reached pieces reaches = inr (record {
    first = first;
    stood = stood;
    opened = reaches.opened;
    judged = reaches.judged;
    later = reaches.later;
    synced = ap (λ (states : List DiskState). entries_of name states ++ log) reaches.synced;
    history = reaches.history;
    is_history = reaches.is_history;
    each = λ image left. ⊎_elim (on_shelf image) (of_disk image) ((joins_images name new log).each (suc (suc (length log))) image left);
  })
    where
      on_shelf : (image : Option (List ℕ)) → MayHaveLeftOf name (suc (suc (length log))) log image → KeepsReached reaches.opened reaches.history image
      on_shelf image early = absurd (let late : suc (suc (length log)) ≤ length log = not_later name (suc (suc (length log))) log image early in omega arith)

      of_disk : (image : Option (List ℕ)) → MayHaveLeftFile (suc (suc (length log)) - length log) new image → KeepsReached reaches.opened reaches.history image
      of_disk None none = absurd none
      of_disk (Some bytes) here =
          let second : suc (suc (length log)) - length log ≡ 2 = omega arith in
          reaches.each bytes (subst (λ (moment : ℕ). MayHaveLeft moment new bytes) second here)

  pub leaves_filled : (pieces : Option (List Piece)) → LeavesDisk pieces first new → LeavesFilled name pieces log (entries_of name new ++ log)
  leaves_filled pieces (inl stays) = inl (stays_old stays)
  leaves_filled pieces (inr reaches) = reached pieces reaches

  now_acknowledged : (pieces : Option (List Piece)) (opened : Opened) (states : List DiskState) → states ≡ new → ((more : List DiskState) × (new ≡ more ++ (first ∷ []))) → Now states (EndsAcknowledged opened pieces)
      → (now : DiskState) × (newest_of name (entries_of name new ++ log) ≡ Some now) × EndsAcknowledged opened pieces now
  now_acknowledged pieces opened [] is grew holds = absurd (none grew.0 (is ∙ grew.1))
    where
      none : (more : List DiskState) → [] ≡ more ++ (first ∷ []) → ⊥
      none [] e = absurd (cc)
      none (disk ∷ past) e = absurd (cc)
  now_acknowledged pieces opened (disk ∷ past) is grew holds = (disk, (joins_images name new log).newest disk past (sym is), holds)

  pub ends_settled : (given : Option (List ℕ)) (result : Result CommandOutcome Stop) → FillsDisk name first new given result → status_of result ≢ 5 → status_of result ≢ 6 → EndsSettled name (stream_pieces given) log (entries_of name new ++ log)
  ends_settled given result fills five six plain other opened other_stood judged =
      let same : other ≡ first = (let both : Some other ≡ Some first = sym other_stood ∙ stood in cc) in
      now_acknowledged (stream_pieces given) opened new refl fills.grew (fills.settled five six opened (ap (λ (d : DiskState). fillable_of d.reads) (sym same) ∙ judged))

  over_bytes : (files : Contents) (given : List ℕ) (stored : Option (List ℕ)) (outcome : CommandOutcome) (now : Option Contents) → stored ≡ Some first.reads → AnswersFile (fill_over name given first.reads) outcome (reads_of new)
      → now ≡ Some (insert files name (fill_over name given first.reads).bytes) → AnswersAs (fill_stored name files given stored) outcome now
  over_bytes files given stored outcome now is answers after =
      subst (λ (s : Option (List ℕ)). AnswersAs (fill_stored name files given s) outcome now) (sym is)
      (record { status_is = answers.ends.status_is; text_is = answers.ends.text_is; after_is = after })

  pub answers_over : (given : Option (List ℕ)) (result : Result CommandOutcome Stop) (now : Option Contents) → FillsDisk name first new given result → now ≡ Some (contents_of (entries_of name new ++ log))
      → IfSome given (λ given. IfOk result (λ outcome. outcome.status.0 ≢ 7 → AnswersAs (fill_stored name (contents_of log) given (get (contents_of log) name)) outcome now))
  answers_over None result now fills is = tt
  answers_over (Some given) (Err why) now fills is = tt
  answers_over (Some given) (Ok outcome) now fills is = λ other.
      let answers = fills.answer other in
      over_bytes (contents_of log) given (get (contents_of log) name) outcome now (stored_is name log first stood) answers
      (is ∙ ap (λ (c : Contents). Some c) (now_stands name (fill_over name given first.reads).bytes new log answers.reads_is))

  pub fills_up : (given : Option (List ℕ)) (result : Result CommandOutcome Stop) (now : Option Contents) → FillsDisk name first new given result → now ≡ Some (contents_of (entries_of name new ++ log))
      → IfSome given (λ given. IfOk result (λ outcome. outcome.status.0 ≡ 7 → EndsFull name (contents_of log) given now))
  fills_up None result now fills is = tt
  fills_up (Some given) (Err why) now fills is = tt
  fills_up (Some given) (Ok outcome) now fills is = λ seven.
      let up = fills.full seven in
      record {
        bytes = first.reads;
        stood = stored_is name log first stood;
        opened = up.opened;
        judged = up.judged;
        left = up.full.left;
        full = up.full.full;
        after_is = is ∙ ap (λ (c : Contents). Some c) (now_stands name up.full.left new log up.full.reads_is);
      }

-- ---- over a log that may not be told

module _ (name : List ℕ) (before mid after : Option Log) (lent new : List DiskState) (given : Option (List ℕ)) (result : Result CommandOutcome Stop)
    (found : IfSome before (λ log. true ≡ is_some (newest_of name log))) (states : IfSome before (λ log. lent ≡ option_to_list (newest_of name log))) (same : mid ≡ before)
    (back : after ≡ option_map (λ log. entries_of name new ++ log) mid) (fills : (first : DiskState) → lent ≡ first ∷ [] → FillsDisk name first new given result) where
  after_is : (log : Log) → before ≡ Some log → after ≡ Some (entries_of name new ++ log)
  after_is log is = back ∙ ap (option_map (λ (entries : Log). entries_of name new ++ entries)) (same ∙ is)

  lent_as : (log : Log) → before ≡ Some log → WasLent (newest_of name log) lent
  lent_as log is =
      was_lent (newest_of name log) lent (subst (λ (b : Option Log). IfSome b (λ log. true ≡ is_some (newest_of name log))) is found)
      (subst (λ (b : Option Log). IfSome b (λ log. lent ≡ option_to_list (newest_of name log))) is states)

  by_log : (P : Log → Log → Type 0) (told : Option Log) → before ≡ told → ((log : Log) → before ≡ Some log → P log (entries_of name new ++ log)) → IfLogs told after P
  by_log P None is each = tt
  by_log P (Some log) is each = subst (λ (now : Option Log). IfSome now (P log)) (sym (after_is log is)) (each log is)

  pub given_extends : IfLogs before after (ExtendsOnly name)
  given_extends = by_log (ExtendsOnly name) before refl (λ log is. record {
    absent = λ none. absurd (let there = lent_as log is in none_there (newest_of name log) there.first (sym none) there.stood);
    own = (new, refl);
  })

  pub given_leaves : IfLogs before after (LeavesFilled name (stream_pieces given))
  given_leaves = by_log (LeavesFilled name (stream_pieces given)) before refl (λ log is.
      let there = lent_as log is in leaves_filled name log new there.first there.stood (stream_pieces given) (fills there.first there.lent_is).moments)

  pub given_settled : status_of result ≢ 5 → status_of result ≢ 6 → IfLogs before after (EndsSettled name (stream_pieces given))
  given_settled five six = by_log (EndsSettled name (stream_pieces given)) before refl (λ log is.
      let there = lent_as log is in ends_settled name log new there.first there.stood given result (fills there.first there.lent_is) five six)

  pub given_answers : (told now : Option Contents) → told ≡ option_map contents_of before → now ≡ option_map contents_of after
      → IfSome told (λ files. IfSome given (λ given. IfOk result (λ outcome. outcome.status.0 ≢ 7 → AnswersAs (fill_stored name files given (get files name)) outcome now)))
  given_answers told now told_is now_is =
      subst (λ (t : Option Contents). IfSome t (λ files. IfSome given (λ given. IfOk result (λ outcome. outcome.status.0 ≢ 7 → AnswersAs (fill_stored name files given (get files name)) outcome now)))) (sym told_is) (go before refl)
    where
      go : (b : Option Log) → before ≡ b → IfSome (option_map contents_of b) (λ files. IfSome given (λ given. IfOk result (λ outcome. outcome.status.0 ≢ 7 → AnswersAs (fill_stored name files given (get files name)) outcome now)))
      go None is = tt
      go (Some log) is = let there = lent_as log is in
          answers_over name log new there.first there.stood given result now (fills there.first there.lent_is) (now_is ∙ ap (option_map contents_of) (after_is log is))

  pub given_full : (told now : Option Contents) → told ≡ option_map contents_of before → now ≡ option_map contents_of after
      → IfSome told (λ files. IfSome given (λ given. IfOk result (λ outcome. outcome.status.0 ≡ 7 → EndsFull name files given now)))
  given_full told now told_is now_is =
      subst (λ (t : Option Contents). IfSome t (λ files. IfSome given (λ given. IfOk result (λ outcome. outcome.status.0 ≡ 7 → EndsFull name files given now)))) (sym told_is) (go before refl)
    where
      go : (b : Option Log) → before ≡ b → IfSome (option_map contents_of b) (λ files. IfSome given (λ given. IfOk result (λ outcome. outcome.status.0 ≡ 7 → EndsFull name files given now)))
      go None is = tt
      go (Some log) is = let there = lent_as log is in
          fills_up name log new there.first there.stood given result now (fills there.first there.lent_is) (now_is ∙ ap (option_map contents_of) (after_is log is))
