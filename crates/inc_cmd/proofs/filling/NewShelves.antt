-- A new file comes to stand on a shelf, is made and filled on its lent disk, and given back.
use Rattle.std.proofs.Common.{◌≡◌, ◌≢◌, ◌⊎◌, inl, inr, ⊎_elim, ℕ, suc, ◌+◌, ◌-◌, ◌≤◌, true, false, List, [], ◌∷◌, ◌++◌, length, Option, Some, None, Result, Ok, Err, refl, sym, ap, ◌∙◌, subst, arith, append_assoc, length-append}
use Rattle.std.specs.Prelude.{IfSome, IfOk, is_some, not, option_map}
use Rattle.std.specs.FinMap.{get, insert}
use Rattle.inc_io.specs.Contents.{Contents}
use Rattle.inc_disk.specs.Disk.{DiskState, MayHaveLeft, Now, reads_of, settled}
use Rattle.inc_disk.specs.Laws.{LeavesOnly}
use Rattle.inc_disk.specs.Log.{Log, MayHaveLeftFile, MayHaveLeftOf, contents_of, entries_of, newest_of}
use Rattle.inc_disk.proofs.LogLemmas.{joins_images}
use Rattle.inc_frame.specs.declared.piece.Piece.{Piece}
use Rattle.inc_layout.specs.declared.opened.Opened.{Opened}
use Rattle.inc_loader.specs.declared.loader_file.LoaderFile.{LoaderFile}
use Rattle.inc_recover.specs.Making.{MayBeLeft}
use Rattle.inc_words.specs.Endings.{AnswersAs, EndsAs, refused}
use Rattle.inc_words.specs.Refusals.{exists}
use Rattle.inc_words.specs.declared.outcome.CommandOutcome.{CommandOutcome}
use Rattle.inc_words.specs.declared.stop.Stop.{Stop}
use Rattle.inc_words.specs.declared.stop.Stop.TheVariants as stop
use Rattle.inc_cmd.specs.Commands.Big.{big_ending, big_fresh, big_over, big_pieces, filled_fresh}
use Rattle.inc_cmd.specs.Commands.BigMoments.{LeavesBig, SettlesBig, SettlesNew, Stores}
use Rattle.inc_cmd.specs.Commands.Check.{AreAllProved, check_ending}
use Rattle.inc_cmd.specs.Commands.Fill.{fillable_of}
use Rattle.inc_cmd.specs.Commands.FillMoments.{EndsAcknowledged, KeepsReached}
use Rattle.inc_cmd.specs.Commands.Make.{LeavesNew}
use Rattle.inc_cmd.specs.NewFiles.{FillsNew, GrewSince, HoldsAllOf, TellsBig}
use Rattle.inc_cmd.specs.Runs.{IfLogs, status_of}
use Rattle.inc_cmd.proofs.MakeLemmas.{all_entries, file_log, leaves_none, not_false, not_later, not_true, own_entries, there_is, with_file}

-- ---- a shelf that stays as it is

pub big_none : (before after : Option Log) (name fresh : List ℕ) (pieces : List Piece) → after ≡ before → IfLogs before after (LeavesBig name fresh pieces)
big_none before after name fresh pieces same = go before after (leaves_none before after name fresh same)
  where
    go : (before after : Option Log) → IfLogs before after (LeavesNew name fresh) → IfLogs before after (LeavesBig name fresh pieces)
    go None after leaves = tt
    go (Some old) None leaves = tt
    go (Some old) (Some new) leaves = inl leaves

pub settles_there : (before after : Option Log) (name fresh : List ℕ) (pieces : List Piece) → IfSome before (λ log. false ≡ not (is_some (newest_of name log))) → IfLogs before after (SettlesNew name fresh pieces)
settles_there None after name fresh pieces there = tt
settles_there (Some log) None name fresh pieces there = tt
settles_there (Some log) (Some new) name fresh pieces there =
    λ none. absurd (let found : true ≡ is_some (newest_of name log) = not_true (is_some (newest_of name log)) there in let both : true ≡ false = found ∙ none in cc)

-- the same of the file of a number and a size
pub settles_made : (before after : Option Log) (name : List ℕ) (number size : ℕ) (fresh : List ℕ) (pieces : List Piece) → fresh ≡ big_fresh number size → pieces ≡ big_pieces number size
    → IfLogs before after (SettlesNew name fresh pieces) → IfLogs before after (SettlesBig name number size)
settles_made None after name number size fresh pieces same whole settles = tt
settles_made (Some old) None name number size fresh pieces same whole settles = tt
settles_made (Some old) (Some new) name number size fresh pieces same whole settles = λ small.
    subst (λ (bytes : List ℕ). SettlesNew name bytes (big_pieces number size) old new) same (subst (λ (ps : List Piece). SettlesNew name fresh ps old new) whole settles)

-- ---- what the log has of it

module _ (name fresh : List ℕ) (pieces : List Piece) (log : Log) (new : List DiskState) where
  now_log : Log
  now_log = entries_of name new ++ (name, settled []) ∷ log

  grown : GrewSince fresh pieces new → LeavesBig name fresh pieces log (entries_of name new ++ (name, settled []) ∷ log)
  grown grew =
      let making : List DiskState = grew.making ++ (settled [] ∷ []) in
      let whole : new ++ (settled [] ∷ []) ≡ grew.later ++ (settled fresh ∷ making) = ap (λ (ds : List DiskState). ds ++ (settled [] ∷ [])) grew.parts ∙ append_assoc grew.later (settled fresh ∷ grew.making) (settled [] ∷ []) in
      let count : length making ≡ length grew.making + 1 = length-append grew.making (settled [] ∷ []) in
      inr (record {
        making = making;
        later = grew.later;
        parts = own_entries name new (settled []) log ∙ ap (λ (ds : List DiskState). entries_of name ds ++ log) whole;
        made = subst (LeavesNew name fresh log) (own_entries name (settled fresh ∷ grew.making) (settled []) log) (file_log name fresh (settled fresh ∷ grew.making) log grew.made);
        opened = grew.opened;
        judged = grew.judged;
        history = grew.history;
        is_history = grew.is_history;
        each = λ image left. ⊎_elim (on_shelf (length making) count image) (of_disk (length making) count image)
            ((joins_images name new ((name, settled []) ∷ log)).each (suc (length making) + length log) image left);
      })
    where
      on_shelf : (count : ℕ) → count ≡ length grew.making + 1 → (image : Option (List ℕ)) → MayHaveLeftOf name (suc count + length log) ((name, settled []) ∷ log) image → KeepsReached grew.opened grew.history image
      on_shelf count is image early =
          absurd (let late : suc count + length log ≤ length ((name, settled []) ∷ log) = not_later name (suc count + length log) ((name, settled []) ∷ log) image early in omega (arith, is))

      of_disk : (count : ℕ) → count ≡ length grew.making + 1 → (image : Option (List ℕ)) → MayHaveLeftFile (suc count + length log - length ((name, settled []) ∷ log)) new image → KeepsReached grew.opened grew.history image
      of_disk count is None none = absurd none
      of_disk count is (Some bytes) here =
          let moment : suc count + length log - length ((name, settled []) ∷ log) ≡ suc (length grew.making) = omega (arith, is) in
          grew.each bytes (subst (λ (moment : ℕ). MayHaveLeft moment new bytes) moment here)

  pub leaves_big : LeavesOnly (settled [] ∷ []) new (MayBeLeft fresh) ⊎ GrewSince fresh pieces new → LeavesBig name fresh pieces log (entries_of name new ++ (name, settled []) ∷ log)
  leaves_big (inl leaves) = inl (file_log name fresh new log leaves)
  leaves_big (inr grew) = grown grew

  pub settles_big : (states : List DiskState) → states ≡ new → ((more : List DiskState) × (new ≡ more ++ (settled [] ∷ []))) → ((opened : Opened) → fillable_of fresh ≡ Ok opened → Now states (EndsAcknowledged opened (Some pieces)))
      → SettlesNew name fresh pieces log (entries_of name new ++ (name, settled []) ∷ log)
  settles_big [] is grew holds none opened judged = absurd (empty grew.0 (is ∙ grew.1))
    where
      empty : (more : List DiskState) → [] ≡ more ++ (settled [] ∷ []) → ⊥
      empty [] e = absurd (cc)
      empty (disk ∷ past) e = absurd (cc)
  settles_big (disk ∷ past) is grew holds none opened judged = (disk, (joins_images name new ((name, settled []) ∷ log)).newest disk past (sym is), holds opened judged)

  pub stores : (bytes : List ℕ) (states : List DiskState) → states ≡ new → reads_of states ≡ Some bytes → Stores name bytes (entries_of name new ++ (name, settled []) ∷ log)
  stores bytes [] is reads = absurd (cc)
  stores bytes (disk ∷ past) is reads = record { now = disk; newest = (joins_images name new ((name, settled []) ∷ log)).newest disk past (sym is); reads_is = (let same : disk.reads ≡ bytes = cc in same) }

  pub stands : (bytes : List ℕ) (states : List DiskState) → states ≡ new → reads_of states ≡ Some bytes → contents_of (entries_of name new ++ (name, settled []) ∷ log) ≡ insert (contents_of log) name bytes
  stands bytes [] is reads = absurd (cc)
  stands bytes (disk ∷ past) is reads =
      subst (λ (ds : List DiskState). contents_of (entries_of name ds ++ (name, settled []) ∷ log) ≡ insert (contents_of log) name bytes) is
      (with_file name bytes disk past log (let same : disk.reads ≡ bytes = cc in same))

-- ---- what is told

module _ (name : List ℕ) (file : LoaderFile) (pieces : List Piece) (fresh : List ℕ) (new : List DiskState) (filled : Result (Option ℕ) Stop) (fills : FillsNew fresh pieces new filled) where
  -- of such a disk a check is told
  checked_as : (reads : Option (List ℕ)) (outcome : CommandOutcome) → reads ≡ reads_of new → TellsBig name file reads filled (Ok outcome)
      → (reads_of new ≡ Some (filled_fresh pieces fresh).bytes) × EndsAs (big_ending name file (filled_fresh pieces fresh).written (check_ending name (Some file.root) (filled_fresh pieces fresh).bytes)) outcome
  checked_as reads outcome same tells = go filled fills.filled tells
    where
      go : (filled : Result (Option ℕ) Stop) → IfOk filled (HoldsAllOf (filled_fresh pieces fresh) (reads_of new)) → TellsBig name file reads filled (Ok outcome)
          → (reads_of new ≡ Some (filled_fresh pieces fresh).bytes) × EndsAs (big_ending name file (filled_fresh pieces fresh).written (check_ending name (Some file.root) (filled_fresh pieces fresh).bytes)) outcome
      go (Ok None) is tells = absurd is
      go (Ok (Some written)) is tells =
          let read : reads ≡ Some (filled_fresh pieces fresh).bytes = same ∙ is.reads_is in
          let ends : EndsAs (big_ending name file written (check_ending name (Some file.root) (filled_fresh pieces fresh).bytes)) outcome =
          subst (λ (r : Option (List ℕ)). IfSome r (λ bytes. EndsAs (big_ending name file written (check_ending name (Some file.root) bytes)) outcome)) read tells in
          (is.reads_is, subst (λ (n : ℕ). EndsAs (big_ending name file n (check_ending name (Some file.root) (filled_fresh pieces fresh).bytes)) outcome) is.written_is ends)
      go (Err why) is tells = absurd (cc)

  pub at_rest_told : (reads : Option (List ℕ)) (result : Result CommandOutcome Stop) → TellsBig name file reads filled result → status_of result ≢ 5 → status_of result ≢ 6
      → (opened : Opened) → fillable_of fresh ≡ Ok opened → Now new (EndsAcknowledged opened (Some pieces))
  at_rest_told reads result tells five six = go filled result fills.at_rest tells five six
    where
      go : (filled : Result (Option ℕ) Stop) (result : Result CommandOutcome Stop) → IfOk filled (λ written. (opened : Opened) → fillable_of fresh ≡ Ok opened → Now new (EndsAcknowledged opened (Some pieces)))
          → TellsBig name file reads filled result → status_of result ≢ 5 → status_of result ≢ 6 → (opened : Opened) → fillable_of fresh ≡ Ok opened → Now new (EndsAcknowledged opened (Some pieces))
      go (Ok written) result rest tells five six = rest
      go (Err stop.Fault) result rest tells five six = absurd (five (ap status_of tells))
      go (Err stop.OutOfMemory) result rest tells five six = absurd (six (ap status_of tells))

over_none : (name : List ℕ) (file : LoaderFile) (pieces : List Piece) (fresh : List ℕ) (files : Contents) (stored : Option (List ℕ)) (outcome : CommandOutcome) (now : Option Contents) → is_some stored ≡ false
    → EndsAs (big_ending name file (filled_fresh pieces fresh).written (check_ending name (Some file.root) (filled_fresh pieces fresh).bytes)) outcome → now ≡ Some (insert files name (filled_fresh pieces fresh).bytes)
    → AnswersAs (big_over name file pieces fresh files stored) outcome now
over_none name file pieces fresh files (Some bytes) outcome now there ends after = absurd (cc)
over_none name file pieces fresh files None outcome now there ends after = record { status_is = ends.status_is; text_is = ends.text_is; after_is = after }

over_some : (name : List ℕ) (file : LoaderFile) (pieces : List Piece) (fresh : List ℕ) (files : Contents) (stored : Option (List ℕ)) (now : Option Contents) (result : Result CommandOutcome Stop) → is_some stored ≡ true
    → now ≡ Some files → IfOk result (EndsAs (refused name exists)) → IfOk result (λ outcome. AnswersAs (big_over name file pieces fresh files stored) outcome now)
over_some name file pieces fresh files None now result there same ends = absurd (cc)
over_some name file pieces fresh files (Some bytes) now (Ok outcome) there same ends = record { status_is = ends.status_is; text_is = ends.text_is; after_is = same }
over_some name file pieces fresh files (Some bytes) now (Err why) there same ends = tt

-- nothing was lent, since the name is there
pub big_exists : (told now : Option Contents) (log : Option Log) (name : List ℕ) (file : LoaderFile) (pieces : List Piece) (fresh : List ℕ) (result : Result CommandOutcome Stop) → told ≡ option_map contents_of log → now ≡ told
    → IfSome log (λ entries. false ≡ not (is_some (newest_of name entries))) → IfOk result (EndsAs (refused name exists))
    → IfSome told (λ files. IfOk result (λ outcome. AnswersAs (big_over name file pieces fresh files (get files name)) outcome now))
big_exists told now None name file pieces fresh result is same found ends =
    subst (λ (t : Option Contents). IfSome t (λ files. IfOk result (λ outcome. AnswersAs (big_over name file pieces fresh files (get files name)) outcome now))) (sym is) tt
big_exists told now (Some log) name file pieces fresh result is same found ends =
    subst (λ (t : Option Contents). IfSome t (λ files. IfOk result (λ outcome. AnswersAs (big_over name file pieces fresh files (get files name)) outcome now))) (sym is)
    (over_some name file pieces fresh (contents_of log) (get (contents_of log) name) now result (there_is log name true (not_true (is_some (newest_of name log)) found)) (same ∙ is) ends)

-- ---- over a log that may not be told

module _ (name : List ℕ) (file : LoaderFile) (pieces : List Piece) (fresh : List ℕ) (before created after : Option Log) (lent new given : List DiskState) (filled : Result (Option ℕ) Stop) (result : Result CommandOutcome Stop)
    (free : IfSome before (λ log. true ≡ not (is_some (newest_of name log)))) (empty : IfSome before (λ log. lent ≡ settled [] ∷ [])) (made : created ≡ option_map (λ log. (name, settled []) ∷ log) before)
    (given_back : after ≡ option_map (λ log. entries_of name given ++ log) created) (same : given ≡ new) (fills : lent ≡ settled [] ∷ [] → FillsNew fresh pieces new filled) (tells : TellsBig name file (reads_of new) filled result) where
  back : after ≡ option_map (λ log. entries_of name new ++ log) created
  back = given_back ∙ ap (λ (ds : List DiskState). option_map (λ (log : Log). entries_of name ds ++ log) created) same

  after_is : (log : Log) → before ≡ Some log → after ≡ Some (entries_of name new ++ (name, settled []) ∷ log)
  after_is log is = all_entries log created after name new (made ∙ ap (option_map (λ (log : Log). (name, settled []) ∷ log)) is) back

  fills_in : (log : Log) → before ≡ Some log → FillsNew fresh pieces new filled
  fills_in log is = fills (subst (λ (b : Option Log). IfSome b (λ log. lent ≡ settled [] ∷ [])) is empty)

  by_log : (P : Log → Log → Type 0) (told : Option Log) → before ≡ told → ((log : Log) → before ≡ Some log → P log (entries_of name new ++ (name, settled []) ∷ log)) → IfLogs told after P
  by_log P None is each = tt
  by_log P (Some log) is each = subst (λ (now : Option Log). IfSome now (P log)) (sym (after_is log is)) (each log is)

  pub big_leaves : IfLogs before after (LeavesBig name fresh pieces)
  big_leaves = by_log (LeavesBig name fresh pieces) before refl (λ log is. leaves_big name fresh pieces log new (fills_in log is).moments)

  pub big_settles : status_of result ≢ 5 → status_of result ≢ 6 → IfLogs before after (SettlesNew name fresh pieces)
  big_settles five six = by_log (SettlesNew name fresh pieces) before refl (λ log is.
      let own = fills_in log is in settles_big name fresh pieces log new new refl own.grew (at_rest_told name file pieces fresh new filled own (reads_of new) result tells five six))

  pub big_stores : status_of result ≡ 0 → IfSome after (Stores name (filled_fresh pieces fresh).bytes)
  big_stores done = go before refl
    where
      stored : (log : Log) → before ≡ Some log → (result : Result CommandOutcome Stop) → TellsBig name file (reads_of new) filled result → status_of result ≡ 0 → Stores name (filled_fresh pieces fresh).bytes (entries_of name new ++ (name, settled []) ∷ log)
      stored log is (Ok outcome) tells e =
          let checked = checked_as name file pieces fresh new filled (fills_in log is) (reads_of new) outcome refl tells in stores name fresh pieces log new (filled_fresh pieces fresh).bytes new refl checked.0
      stored log is (Err stop.Fault) tells e = absurd (omega (arith, e))
      stored log is (Err stop.OutOfMemory) tells e = absurd (omega (arith, e))

      go : (told : Option Log) → before ≡ told → IfSome after (Stores name (filled_fresh pieces fresh).bytes)
      go None is = subst (λ (a : Option Log). IfSome a (Stores name (filled_fresh pieces fresh).bytes)) (sym (back ∙ ap (option_map (λ (log : Log). entries_of name new ++ log)) (made ∙ ap (option_map (λ (log : Log). (name, settled []) ∷ log)) is))) tt
      go (Some log) is = subst (λ (a : Option Log). IfSome a (Stores name (filled_fresh pieces fresh).bytes)) (sym (after_is log is)) (stored log is result tells done)

  pub big_answers : (told now : Option Contents) → told ≡ option_map contents_of before → now ≡ option_map contents_of after
      → IfSome told (λ files. IfOk result (λ outcome. AnswersAs (big_over name file pieces fresh files (get files name)) outcome now))
  big_answers told now told_is now_is =
      subst (λ (t : Option Contents). IfSome t (λ files. IfOk result (λ outcome. AnswersAs (big_over name file pieces fresh files (get files name)) outcome now))) (sym told_is) (go before refl)
    where
      answered : (log : Log) → before ≡ Some log → (result : Result CommandOutcome Stop) → TellsBig name file (reads_of new) filled result
          → IfOk result (λ outcome. AnswersAs (big_over name file pieces fresh (contents_of log) (get (contents_of log) name)) outcome now)
      answered log is (Err why) tells = tt
      answered log is (Ok outcome) tells =
          let checked = checked_as name file pieces fresh new filled (fills_in log is) (reads_of new) outcome refl tells in
          let absent : false ≡ is_some (newest_of name log) = not_false (is_some (newest_of name log)) (subst (λ (b : Option Log). IfSome b (λ log. true ≡ not (is_some (newest_of name log)))) is free) in
          over_none name file pieces fresh (contents_of log) (get (contents_of log) name) outcome now (there_is log name false absent) checked.1
          (now_is ∙ ap (option_map contents_of) (after_is log is) ∙ ap (λ (c : Contents). Some c) (stands name fresh pieces log new (filled_fresh pieces fresh).bytes new refl checked.0))

      go : (b : Option Log) → before ≡ b → IfSome (option_map contents_of b) (λ files. IfOk result (λ outcome. AnswersAs (big_over name file pieces fresh files (get files name)) outcome now))
      go None is = tt
      go (Some log) is = answered log is result tells

  pub big_shows : (told : Option Contents) → told ≡ option_map contents_of before → IfSome (reads_of new) (λ bytes. IfOk result (λ outcome. outcome.status.0 ≡ 0 → AreAllProved bytes (Some file.root) None))
      → IfSome told (λ files. IfOk result (λ outcome. outcome.status.0 ≡ 0 → AreAllProved (filled_fresh pieces fresh).bytes (Some file.root) None))
  big_shows told told_is shows =
      subst (λ (t : Option Contents). IfSome t (λ files. IfOk result (λ outcome. outcome.status.0 ≡ 0 → AreAllProved (filled_fresh pieces fresh).bytes (Some file.root) None))) (sym told_is) (go before refl)
    where
      shown : (log : Log) → before ≡ Some log → (result : Result CommandOutcome Stop) → TellsBig name file (reads_of new) filled result → IfSome (reads_of new) (λ bytes. IfOk result (λ outcome. outcome.status.0 ≡ 0 → AreAllProved bytes (Some file.root) None))
          → IfOk result (λ outcome. outcome.status.0 ≡ 0 → AreAllProved (filled_fresh pieces fresh).bytes (Some file.root) None)
      shown log is (Err why) tells shows = tt
      shown log is (Ok outcome) tells shows =
          let checked = checked_as name file pieces fresh new filled (fills_in log is) (reads_of new) outcome refl tells in
          subst (λ (r : Option (List ℕ)). IfSome r (λ bytes. outcome.status.0 ≡ 0 → AreAllProved bytes (Some file.root) None)) checked.0 shows

      go : (b : Option Log) → before ≡ b → IfSome (option_map contents_of b) (λ files. IfOk result (λ outcome. outcome.status.0 ≡ 0 → AreAllProved (filled_fresh pieces fresh).bytes (Some file.root) None))
      go None is = tt
      go (Some log) is = shown log is result tells shows
