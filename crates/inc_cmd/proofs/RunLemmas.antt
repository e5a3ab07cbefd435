-- A run of a command: from its words to what is written.
use Rattle.std.proofs.Common.{◌≡◌, ◌≢◌, ◌⊎◌, ⊎_elim, inl, inr, ℕ, ◌<◌, Bool, false, eqb, List, [], ◌∷◌, ◌++◌, Option, Some, None, Result, Ok, Err, true, refl, subst, sym, ap, ◌∙◌, append-nil, arith}
use Rattle.std.specs.Prelude.{IfSome, IfOk, IsSomeAnd, is_some}
use Rattle.std.proofs.lemmas.Bool.{eqb-true}
use Rattle.std.specs.FinMap.{get}
use Rattle.inc_disk.specs.Log.{Log}
use Rattle.inc_io.specs.Contents.{Contents}
use Rattle.inc_cmd.specs.Commands.{ShowsOf, named_ending, plain}
use Rattle.inc_tree.specs.shape.Geometry.{flat_of}
use Rattle.inc_layout.specs.Fresh.{unsigned_of}
use Rattle.inc_cmd.proofs.InputLemmas.{taken_none}
use Rattle.inc_cmd.proofs.MakeLemmas.{adds_none, leaves_none}
use Rattle.inc_cmd.proofs.filling.ShelfFills.{same_extends, same_leaves}
use Rattle.inc_cmd.proofs.filling.NewShelves.{big_none}
use Rattle.inc_cmd.specs.Commands.Big.{big_answer, big_fresh, big_pieces}
use Rattle.inc_cmd.specs.Commands.FillMoments.{stream_pieces}
use Rattle.inc_cmd.specs.Commands.Listing.{list_ending}
use Rattle.inc_cmd.specs.Commands.Make.{LeavesNew, make_answer, new_file, sized}
use Rattle.inc_words.specs.Endings.{AnswersAs, EndsAs}
use Rattle.inc_io.specs.Writing.{Appends, AppendsFront}
use Rattle.inc_cmd.specs.Runs.{ChangesOnly, EndsAsPlain, HasCauseIn, HasEitherCause, IfLogs, IfTold, IsAnswered, KeepsShelf, KeepsUndone, LeavesFiles, Prints, PrintsFront, Settles, Shows, TakesInput, Vouches, WordsAreTold, given_to}
use Rattle.inc_words.specs.Command.{Command, Make, Fill, Big, Over, Listing, Misfit}
use Rattle.inc_words.specs.declared.words.FileCommand.{FileCommand}
use Rattle.inc_words.specs.declared.outcome.CommandOutcome.{CommandOutcome}
use Rattle.inc_words.specs.declared.stop.Stop.{Stop}

-- ---- what is answered

-- the words were no command for want of memory
pub none_answered : (told now : Option Contents) (left : Option (List ℕ)) (command : Command) (stop : Stop)
    → IfTold command told left (λ files given. IfOk {T = CommandOutcome} (Err stop) (λ outcome. outcome.status.0 ≢ 7 → AnswersAs (plain command files given) outcome now))
none_answered told now left command stop = go told (given_to command left)
  where
    go : (told : Option Contents) (given : Option (List ℕ)) → IfSome told (λ files. IfSome given (λ given. IfOk {T = CommandOutcome} (Err stop) (λ outcome. outcome.status.0 ≢ 7 → AnswersAs (plain command files given) outcome now)))
    go None given = tt
    go (Some files) None = tt
    go (Some files) (Some given) = tt

-- a make of an unsigned file is given nothing
pub unsigned_answered : (told now : Option Contents) (left : Option (List ℕ)) (name : List ℕ) (size : ℕ) (id : List ℕ) (unsigned : Bool) (result : Result CommandOutcome Stop) → unsigned ≡ true
    → IfSome told (λ files. IfOk result (λ outcome. AnswersAs (sized name (flat_of size) (unsigned_of size id) files) outcome now))
    → IfTold (Make name size id unsigned) told left (λ files given. IfOk result (λ outcome. AnswersAs (make_answer name size id unsigned files given) outcome now))
unsigned_answered told now left name size id unsigned result set answers =
    subst (λ (u : Bool). IfTold (Make name size id u) told left (λ files given. IfOk result (λ outcome. AnswersAs (make_answer name size id u files given) outcome now))) (sym set) (go told answers)
  where
    go : (told : Option Contents) → IfSome told (λ files. IfOk result (λ outcome. AnswersAs (sized name (flat_of size) (unsigned_of size id) files) outcome now))
        → IfTold (Make name size id true) told left (λ files given. IfOk result (λ outcome. AnswersAs (make_answer name size id true files given) outcome now))
    go None answers = tt
    go (Some files) answers = answers

-- a make has no history that could be full
pub make_answered : (told now : Option Contents) (left : Option (List ℕ)) (name : List ℕ) (size : ℕ) (id : List ℕ) (unsigned : Bool) (result : Result CommandOutcome Stop)
    → IfTold (Make name size id unsigned) told left (λ files given. IfOk result (λ outcome. AnswersAs (make_answer name size id unsigned files given) outcome now))
    → IfTold (Make name size id unsigned) told left (λ files given. IfOk result (λ outcome. outcome.status.0 ≢ 7 → AnswersAs (plain (Make name size id unsigned) files given) outcome now))
make_answered told now left name size id unsigned result answers = go told (given_to (Make name size id unsigned) left) result answers
  where
    go : (told : Option Contents) (given : Option (List ℕ)) (result : Result CommandOutcome Stop) → IfSome told (λ files. IfSome given (λ given. IfOk result (λ outcome. AnswersAs (make_answer name size id unsigned files given) outcome now)))
        → IfSome told (λ files. IfSome given (λ given. IfOk result (λ outcome. outcome.status.0 ≢ 7 → AnswersAs (make_answer name size id unsigned files given) outcome now)))
    go None given result answers = tt
    go (Some files) None result answers = tt
    go (Some files) (Some given) (Ok outcome) answers = λ other. answers
    go (Some files) (Some given) (Err stop) answers = tt

-- nor has a big file, which is given nothing
pub big_answered : (told now : Option Contents) (left : Option (List ℕ)) (name : List ℕ) (number size : ℕ) (result : Result CommandOutcome Stop)
    → IfSome told (λ files. IfOk result (λ outcome. AnswersAs (big_answer name number size files) outcome now))
    → IfTold (Big name number size) told left (λ files given. IfOk result (λ outcome. outcome.status.0 ≢ 7 → AnswersAs (plain (Big name number size) files given) outcome now))
big_answered None now left name number size result answers = tt
big_answered (Some files) now left name number size (Ok outcome) answers = λ other. answers
big_answered (Some files) now left name number size (Err stop) answers = tt

-- a read of one file leaves all files as they are
pub over_answered : (told now : Option Contents) (left : Option (List ℕ)) (name : List ℕ) (file : FileCommand) (result : Result CommandOutcome Stop) → now ≡ told
    → IfSome told (λ files. IfOk result (EndsAs (named_ending file name files)))
    → IfTold (Over name file) told left (λ files given. IfOk result (λ outcome. outcome.status.0 ≢ 7 → AnswersAs (plain (Over name file) files given) outcome now))
over_answered None now left name file result same ends = tt
over_answered (Some files) now left name file (Ok outcome) same ends = λ other. record { status_is = ends.status_is; text_is = ends.text_is; after_is = same }
over_answered (Some files) now left name file (Err stop) same ends = tt

-- and so does a listing
pub listing_answered : (told now : Option Contents) (left : Option (List ℕ)) (result : Result CommandOutcome Stop) → now ≡ told → IfSome told (λ files. IfOk result (EndsAs (list_ending files)))
    → IfTold Listing told left (λ files given. IfOk result (λ outcome. outcome.status.0 ≢ 7 → AnswersAs (plain Listing files given) outcome now))
listing_answered None now left result same ends = tt
listing_answered (Some files) now left (Ok outcome) same ends = λ other. record { status_is = ends.status_is; text_is = ends.text_is; after_is = same }
listing_answered (Some files) now left (Err stop) same ends = tt

-- what is shown of the bytes that were lent is shown of the file
pub over_shows : (told : Option Contents) (read : Option (List ℕ)) (name : List ℕ) (command : FileCommand) (result : Result CommandOutcome Stop)
    → IfSome told (λ files. true ≡ is_some (get files name)) → IfSome told (λ files. read ≡ get files name)
    → IfSome read (λ bytes. IfOk result (λ outcome. outcome.status.0 ≡ 0 → ShowsOf command outcome.text.items None bytes))
    → IfSome told (λ files. IfOk result (λ outcome. outcome.status.0 ≡ 0 → IsSomeAnd (get files name) (λ bytes. ShowsOf command outcome.text.items None bytes)))
over_shows None read name command result there is shows = tt
over_shows (Some files) read name command result there is shows = go (get files name) result there (subst (λ (r : Option (List ℕ)). IfSome r (λ bytes. IfOk result (λ outcome. outcome.status.0 ≡ 0 → ShowsOf command outcome.text.items None bytes))) is shows)
  where
    go : (stored : Option (List ℕ)) (result : Result CommandOutcome Stop) → true ≡ is_some stored → IfSome stored (λ bytes. IfOk result (λ outcome. outcome.status.0 ≡ 0 → ShowsOf command outcome.text.items None bytes))
        → IfOk result (λ outcome. outcome.status.0 ≡ 0 → IsSomeAnd stored (λ bytes. ShowsOf command outcome.text.items None bytes))
    go None result there shows = absurd cc
    go (Some bytes) (Ok outcome) there shows = shows
    go (Some bytes) (Err stop) there shows = tt

-- ---- what stands on the shelf

-- a shelf that is as it was
pub shelf_kept : {K : Type 0} (command : Command) (kept : K) → KeepsShelf command kept kept
shelf_kept (Make name size id unsigned) kept = tt
shelf_kept (Fill name) kept = tt
shelf_kept (Big name number size) kept = tt
shelf_kept (Over name file) kept = refl
shelf_kept Listing kept = refl
shelf_kept (Misfit position) kept = refl

pub nothing_changed : (log : Option Log) (command : Command) → IfLogs log log (ChangesOnly command)
nothing_changed None command = tt
nothing_changed (Some log) (Make name size id unsigned) = adds_none (Some log) (Some log) name refl
nothing_changed (Some log) (Fill name) = same_extends (Some log) (Some log) name refl
nothing_changed (Some log) (Big name number size) = record { adds = adds_none (Some log) (Some log) name refl; too_large = λ large. refl }
nothing_changed (Some log) (Over name file) = refl
nothing_changed (Some log) Listing = refl
nothing_changed (Some log) (Misfit position) = refl

pub none_changed : (before after : Option Log) (command : Command) → after ≡ before → IfLogs before after (ChangesOnly command)
none_changed before after command same = subst (λ (log : Option Log). IfLogs before log (ChangesOnly command)) (sym same) (nothing_changed before command)

pub nothing_left : (given : Option (List ℕ)) (log : Option Log) (command : Command) → IfLogs log log (LeavesFiles command given)
nothing_left given None command = tt
nothing_left None (Some log) (Make name size id unsigned) = tt
nothing_left (Some given) (Some log) (Make name size id unsigned) = leaves_none (Some log) (Some log) name (new_file size id unsigned given) refl
nothing_left given (Some log) (Fill name) = same_leaves (Some log) (Some log) name (stream_pieces given) refl
nothing_left given (Some log) (Big name number size) = big_none (Some log) (Some log) name (big_fresh number size) (big_pieces number size) refl
nothing_left given (Some log) (Over name file) = refl
nothing_left given (Some log) Listing = refl
nothing_left given (Some log) (Misfit position) = refl

-- what a make leaves hangs on what it is given
pub make_leaves : (given : Option (List ℕ)) (before after : Option Log) (name : List ℕ) (size : ℕ) (id : List ℕ) (unsigned : Bool)
    → IfSome given (λ given. IfLogs before after (LeavesNew name (new_file size id unsigned given))) → IfLogs before after (LeavesFiles (Make name size id unsigned) given)
make_leaves given None after name size id unsigned leaves = tt
make_leaves given (Some old) None name size id unsigned leaves = tt
make_leaves None (Some old) (Some new) name size id unsigned leaves = tt
make_leaves (Some given) (Some old) (Some new) name size id unsigned leaves = leaves

pub make_settles : (given : Option (List ℕ)) (before after : Option Log) (name : List ℕ) (size : ℕ) (id : List ℕ) (unsigned : Bool) → IfLogs before after (Settles (Make name size id unsigned) given)
make_settles given None after name size id unsigned = tt
make_settles given (Some old) None name size id unsigned = tt
make_settles given (Some old) (Some new) name size id unsigned = tt

-- nothing was done
pub undone : {K : Type 0} (command : Command) (kept : K) → KeepsUndone command kept kept
undone (Make name size id unsigned) kept = refl
undone (Fill name) kept = tt
undone (Big name number size) kept = tt
undone (Over name file) kept = refl
undone Listing kept = refl
undone (Misfit position) kept = refl

pub takes_nothing : (command : Command) (left : Option (List ℕ)) → TakesInput command left left
takes_nothing (Make name size id unsigned) left = (0, omega arith, taken_none left)
takes_nothing (Fill name) left = (0, taken_none left)
takes_nothing (Big name number size) left = refl
takes_nothing (Over name file) left = refl
takes_nothing Listing left = refl
takes_nothing (Misfit position) left = refl

-- ---- counts

pub fill_fails : {T : Type 0} (name : List ℕ) (before now input_before input_now : ℕ) (result : Result T Stop) → HasEitherCause before now input_before input_now result → HasCauseIn (Fill name) before now input_before input_now result
fill_fails name before now input_before input_now result cause = record {
  later = cause.later;
  input_later = cause.input_later;
  failed = λ e. ⊎_elim (λ shelf. inl shelf) (λ input. inr (refl, input)) (cause.failed e);
  kept = cause.kept;
  input_kept = cause.input_kept;
}

-- ---- what the words come to

-- want of memory tells of no words
pub no_memory_told : (command : Command) → WordsAreTold command 6
no_memory_told (Make name size id unsigned) = λ e. absurd (omega (arith, e))
no_memory_told (Fill name) = λ e. absurd (omega (arith, e))
no_memory_told (Big name number size) = λ e. absurd (omega (arith, e))
no_memory_told (Over name file) = λ e. absurd (omega (arith, e))
no_memory_told Listing = λ e. absurd (omega (arith, e))
no_memory_told (Misfit position) = inr refl

-- what was answered of the words is told at the end
pub words_sent : (command : Command) (before after : ℕ) → WordsAreTold command before → (before < 5) ⊎ (before ≡ 7) → (before ≡ 1 → after ≡ 1) → (after ≡ 1 → before ≡ 1) → WordsAreTold command after
words_sent (Make name size id unsigned) before after told few bad good = λ e. told (good e)
words_sent (Fill name) before after told few bad good = λ e. told (good e)
words_sent (Big name number size) before after told few bad good = λ e. told (good e)
words_sent (Over name file) before after told few bad good = λ e. told (good e)
words_sent Listing before after told few bad good = λ e. told (good e)
words_sent (Misfit position) before after (inl is) few bad good = inl (bad is)
words_sent (Misfit position) before after (inr full) (inl few) bad good = absurd (omega (arith, full))
words_sent (Misfit position) before after (inr full) (inr seven) bad good = absurd (omega (arith, full, seven))

-- ---- what is written

pub sent : (told now : Option Contents) (left : Option (List ℕ)) (command : Command) (outcome : CommandOutcome) (status : ℕ) (before after : Option (List ℕ))
    → IfTold command told left (λ files given. outcome.status.0 ≢ 7 → AnswersAs (plain command files given) outcome now) → status ≢ 7 → status ≡ outcome.status.0 → Appends before after outcome.text.items
    → EndsAsPlain command told left status before after now
sent told now left command outcome status before after answers other is appends = go told (given_to command left) answers
  where
    go : (told : Option Contents) (given : Option (List ℕ)) → IfSome told (λ files. IfSome given (λ given. outcome.status.0 ≢ 7 → AnswersAs (plain command files given) outcome now))
        → IfSome told (λ files. IfSome given (λ given. IsAnswered (plain command files given) status before after now))
    go None given answers = tt
    go (Some files) None answers = tt
    go (Some files) (Some given) answers =
        let own = answers (λ seven. other (is ∙ seven)) in
        record {
          status_is = is ∙ own.status_is;
          text_is = subst (λ (text : List ℕ). Appends before after text) own.text_is appends;
          after_is = own.after_is;
        }

-- no text has no front but itself, which is one of each text
front_of_none : (before after : Option (List ℕ)) (text : List ℕ) → AppendsFront before after [] → AppendsFront before after text
front_of_none before after text front = ([], text, refl, subst (λ (f : List ℕ). Appends before after f) (none front.0 front.1 front.2) front.3)
  where
    none : (front rest : List ℕ) → front ++ rest ≡ [] → front ≡ []
    none [] rest e = refl
    none (byte ∷ front) rest e = absurd (cc)

pub front_sent_of : (told now : Option Contents) (left : Option (List ℕ)) (command : Command) (outcome : CommandOutcome) (before after : Option (List ℕ))
    → IfTold command told left (λ files given. outcome.status.0 ≢ 7 → AnswersAs (plain command files given) outcome now) → (outcome.status.0 ≡ 7 → outcome.text.items ≡ []) → AppendsFront before after outcome.text.items
    → PrintsFront command told left before after
front_sent_of told now left command outcome before after answers silent front = go told (given_to command left) answers
  where
    by_status : (b : Bool) (text : List ℕ) → eqb outcome.status.0 7 ≡ b → (outcome.status.0 ≢ 7 → outcome.text.items ≡ text) → AppendsFront before after text
    by_status true text e own = front_of_none before after text (subst (λ (t : List ℕ). AppendsFront before after t) (silent (eqb-true outcome.status.0 7 e)) front)
    by_status false text e own =
        subst (λ (t : List ℕ). AppendsFront before after t) (own (λ seven. let both : true ≡ false = sym (ap (λ (n : ℕ). eqb n 7) seven) ∙ e in absurd (cc))) front

    go : (told : Option Contents) (given : Option (List ℕ)) → IfSome told (λ files. IfSome given (λ given. outcome.status.0 ≢ 7 → AnswersAs (plain command files given) outcome now))
        → IfSome told (λ files. IfSome given (λ given. AppendsFront before after (plain command files given).text))
    go None given answers = tt
    go (Some files) None answers = tt
    go (Some files) (Some given) answers = by_status (eqb outcome.status.0 7) (plain command files given).text refl (λ other. (answers other).text_is)

-- nothing was written
nothing_sent : (before : Option (List ℕ)) (text : List ℕ) → AppendsFront before before text
nothing_sent None text = ([], text, refl, refl)
nothing_sent (Some bytes) text = ([], text, refl, ap (λ (xs : List ℕ). Some xs) (sym (append-nil bytes)))

pub front_none : (told : Option Contents) (left : Option (List ℕ)) (command : Command) (before : Option (List ℕ)) → PrintsFront command told left before before
front_none told left command before = go told (given_to command left)
  where
    go : (told : Option Contents) (given : Option (List ℕ)) → IfSome told (λ files. IfSome given (λ given. AppendsFront before before (plain command files given).text))
    go None given = tt
    go (Some files) None = tt
    go (Some files) (Some given) = nothing_sent before (plain command files given).text

-- what the outcome shows was sent
pub printed : (told : Option Contents) (command : Command) (outcome : CommandOutcome) (status : ℕ) (before after : Option (List ℕ))
    → IfSome told (λ files. outcome.status.0 ≡ 0 → Shows command files outcome.text.items) → (status ≡ 0 → outcome.status.0 ≡ 0) → (status ≡ 0 → Appends before after outcome.text.items)
    → status ≡ 0 → IfSome told (λ files. Prints before after (Shows command files))
printed None command outcome status before after shows done sent e = tt
printed (Some files) command outcome status before after shows done sent e = record { text = outcome.text.items; holds = shows (done e); sent = sent e }

pub vouches_sent : (command : Command) (outcome : CommandOutcome) (status : ℕ) (before after : Option (List ℕ)) → (outcome.status.0 ≡ 0 → Vouches command outcome.text.items)
    → (status ≡ 0 → outcome.status.0 ≡ 0) → (status ≡ 0 → Appends before after outcome.text.items) → status ≡ 0 → Prints before after (Vouches command)
vouches_sent command outcome status before after vouches done sent e = record { text = outcome.text.items; holds = vouches (done e); sent = sent e }
