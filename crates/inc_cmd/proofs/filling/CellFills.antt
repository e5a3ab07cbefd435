-- A fill of a new cell: what is told of it, and what its disk then reads as and leaves.
use Rattle.std.proofs.Common.{◌≡◌, ◌≢◌, inl, inr, ℕ, ◌+◌, ◌*◌, ◌<◌, ◌≤◌, Bool, List, [], ◌++◌, length, take, Option, Some, None, Result, Ok, Err, refl, sym, ap, ◌∙◌, subst, arith, length-append, zero-add}
use Rattle.std.specs.Prelude.{IfSome, IfOk, IfErr}
use Rattle.inc_io.specs.Causes.{Rose}
use Rattle.inc_disk.specs.Disk.{DiskState, Now, reads_of}
use Rattle.inc_disk.specs.Laws.{EachImage}
use Rattle.inc_entry.specs.Entry.{entries}
use Rattle.inc_frame.specs.Fronts.{StreamFront, front_from, stream_front}
use Rattle.inc_frame.specs.Reader.{verdict_at_end}
use Rattle.inc_frame.specs.declared.fault.FrameFault.{FrameFault}
use Rattle.inc_frame.specs.declared.piece.Piece.{Piece}
use Rattle.inc_layout.specs.state.Preserves.{Preserves}
use Rattle.inc_loader.specs.Reading.{before_rest}
use Rattle.inc_model.specs.relation.Step.{IsLegal}
use Rattle.inc_model.specs.declared.words.event.Window.{Window}
use Rattle.inc_model.specs.declared.words.file_state.FileState.{FileState}
use Rattle.inc_model.specs.declared.words.limits.TheConstants.{MOST_ENTRIES}
use Rattle.inc_cell.specs.seen.Parts.{parts_of}
use Rattle.inc_cell.specs.seen.Seen.{Seen, state_now, tells as disk_tells}
use Rattle.inc_cell.specs.seen.Standing.{ReadsAs}
use Rattle.inc_filling.specs.Contents.{FilledFile, filled_file, with_pieces}
use Rattle.inc_filling.specs.Filled.{AreIn, FillsFrom, FillsWith, HasSourceCause, IsFullFill}
use Rattle.inc_filling.specs.Refusals.{first_refusal, taken_pieces}
use Rattle.inc_filling.specs.Streams.{EndsStream}
use Rattle.inc_filling.specs.declared.refusal.PieceRefusal.{PieceRefusal}
use Rattle.inc_filling.specs.declared.from_stream.filled.FillEnd.{FillEnd}
use Rattle.inc_filling.specs.declared.from_stream.filled.FillEnd.TheVariants as end
use Rattle.inc_filling.specs.declared.from_stream.filled.FillFailure.{FillFailure}
use Rattle.inc_filling.specs.declared.from_stream.filled.FillFailure.TheVariants.{Source, Stopped}
use Rattle.inc_filling.specs.declared.from_stream.filled.Filled.{Filled}
use Rattle.inc_filling.specs.declared.stop.FillStop.TheVariants as halt
use Rattle.inc_words.specs.Endings.{EndsAs, Ending, done}
use Rattle.inc_words.specs.Texts.{fill_line}
use Rattle.inc_words.specs.declared.outcome.CommandOutcome.{CommandOutcome}
use Rattle.inc_words.specs.declared.stop.Stop.{Stop}
use Rattle.inc_words.specs.declared.stop.Stop.TheVariants as stop
use Rattle.inc_cmd.specs.Commands.Fill.{fill_ending, fill_opened, least_before_full, pieces_ending}
use Rattle.inc_cmd.specs.Commands.FillMoments.{KeepsAllOpen, PutsPieces, stream_pieces}
use Rattle.inc_cmd.specs.FilledDisks.{AnswersFile, AnswersOr, FillsCell, IsFullOr, ReadsFull, TellsFill, filled_ending}
use Rattle.inc_cmd.specs.Runs.{HasEitherCause, status_of}
use Rattle.inc_cmd.proofs.filling.GivenStreams.{given_is, pieces_more, same_taken, still_refused, taken_begins, taken_front, taken_unless_refused, whole_ended, whole_refused}
use Rattle.inc_cmd.proofs.filling.CellPuts.{GivenBack, PutSome, all_put, puts_begin, runs_told, settled_in, stop_put}

-- ---- what was put

some_put : (old new : Seen) (window : Window) (front : StreamFront) (ended : Bool) (left : Option (List ℕ)) (result : Result Filled FillFailure) → (state_now old).failed ≡ None
    → FillsWith old window front ended left result new → PutSome old new (taken_pieces old.opened front.pieces)
some_put old new window front ended left (Ok filled) sound w = all_put old new window (taken_pieces old.opened front.pieces) filled.written filled.present w.1
some_put old new window front ended left (Err (Source None)) sound w =
    subst (PutSome old new) (sym (taken_unless_refused old.opened front.pieces w.0.none_refused)) (all_put old new window front.pieces w.1 w.2 w.3)
some_put old new window front ended left (Err (Source (Some why))) sound w =
    subst (PutSome old new) (sym (taken_unless_refused old.opened front.pieces w.0.none_refused)) (stop_put old new window front.pieces why sound w.1)
some_put old new window front ended left (Err (Stopped why)) sound w = stop_put old new window (taken_pieces old.opened front.pieces) why sound w

-- ---- the puts of its history

puts_given : (old new : Seen) (read rest : List ℕ) → old.history ≡ [] → PutSome old new (taken_pieces old.opened (stream_front read).pieces) → PutsPieces old.opened new.history (stream_front (read ++ rest)).pieces
puts_given old new read rest fresh put =
    let begins = taken_begins old.opened (stream_front read).pieces _ in
    puts_begin old new (stream_front (read ++ rest)).pieces (taken_pieces old.opened (stream_front read).pieces) begins.0 fresh (ap (taken_pieces old.opened) (pieces_more read rest) ∙ begins.1) put

puts_told : (old new : Seen) (before left : Option (List ℕ)) (read : List ℕ) → before ≡ before_rest read left → old.history ≡ [] → PutSome old new (taken_pieces old.opened (stream_front read).pieces)
    → IfSome (stream_pieces before) (PutsPieces old.opened new.history)
puts_told old new None left read is fresh put = tt
puts_told old new (Some given) left read is fresh put =
    let g = given_is given read left is in
    subst (λ (bytes : List ℕ). PutsPieces old.opened new.history (stream_front bytes).pieces) (sym g.2) (puts_given old new read g.0 fresh put)

-- ---- what is told

none_told : (told : Result CommandOutcome Stop) (why : Stop) (P : CommandOutcome → Type 0) → told ≡ Err why → IfOk told P
none_told told why P is = subst (λ (r : Result CommandOutcome Stop). IfOk r P) (sym is) tt

abbrev start_file : List ℕ → FilledFile
start_file bytes = record { bytes = bytes; written = 0; present = 0 }

one_stop : (told : Result CommandOutcome Stop) (a b : Stop) → told ≡ Err a → told ≡ Err b → a ≡ b
one_stop told a b first second = cc

-- ---- a stream that came to its end

module _ (name : List ℕ) (old new : Seen) (window : Window) (read rest : List ℕ) (filled : Filled) (bytes : List ℕ) (outcome : CommandOutcome)
    (are : AreIn old window (taken_pieces old.opened (stream_front read).pieces) filled.written filled.present new) (told : reads_of old.states ≡ Some bytes) where
  with_read : FilledFile
  with_read = filled_file old.opened bytes (stream_front read).pieces

  reads_new : reads_of new.states ≡ Some (filled_file old.opened bytes (stream_front read).pieces).bytes
  reads_new = (are.contents (start_file bytes) told).reads

  written_is : (filled_file old.opened bytes (stream_front read).pieces).written ≡ filled.written
  written_is = (are.contents (start_file bytes) told).written_is ∙ zero-add filled.written

  present_is : (filled_file old.opened bytes (stream_front read).pieces).present ≡ filled.present
  present_is = (are.contents (start_file bytes) told).present_is ∙ zero-add filled.present

  -- the front of the whole stream is that of what was read
  by_read : (ending : Ending) → stream_front (read ++ rest) ≡ stream_front read → ending ≡ fill_ending name old.opened bytes (stream_front read) → EndsAs ending outcome
      → AnswersFile (fill_opened name old.opened bytes (stream_front (read ++ rest))) outcome (reads_of new.states)
  by_read ending whole is ends =
      subst (λ (front : StreamFront). AnswersFile (fill_opened name old.opened bytes front) outcome (reads_of new.states)) (sym whole)
      (record { ends = subst (λ (e : Ending). EndsAs e outcome) is ends; reads_is = reads_new })

  done_is : first_refusal old.opened (stream_front read).pieces ≡ None → verdict_at_end (stream_front read).state ≡ Ok tt
      → filled_ending name filled end.Done ≡ fill_ending name old.opened bytes (stream_front read)
  done_is none ends =
      (λ k. done (fill_line name (sym written_is k) (sym present_is k)))
      ∙ (λ k. pieces_ending name (filled_file old.opened bytes (stream_front read).pieces) (sym none k) (sym ends k))

  fault_is : (fault : FrameFault) → first_refusal old.opened (stream_front read).pieces ≡ None → verdict_at_end (stream_front read).state ≡ Err fault
      → filled_ending name filled (end.Stream fault) ≡ fill_ending name old.opened bytes (stream_front read)
  fault_is fault none ends = λ k. pieces_ending name (filled_file old.opened bytes (stream_front read).pieces) (sym none k) (sym ends k)

  refused_pieces : (pieces : List Piece) (verdict : Result (Unit {0}) FrameFault) (refusal : PieceRefusal) → first_refusal old.opened pieces ≡ Some refusal → taken_pieces old.opened pieces ≡ taken_pieces old.opened (stream_front read).pieces
      → EndsAs (filled_ending name filled (end.Refused refusal)) outcome
      → AnswersFile (record { ending = pieces_ending name (filled_file old.opened bytes pieces) (first_refusal old.opened pieces) verdict; bytes = (filled_file old.opened bytes pieces).bytes }) outcome (reads_of new.states)
  refused_pieces pieces verdict refusal is same ends = record {
    ends = subst (λ (found : Option PieceRefusal). EndsAs (pieces_ending name (filled_file old.opened bytes pieces) found verdict) outcome) (sym is) ends;
    reads_is = reads_new ∙ ap (λ (taken : List Piece). Some (with_pieces old.opened (start_file bytes) taken).bytes) (sym same);
  }

  pub answers_end : (ended : Bool) (how : FillEnd) → EndsStream old.opened (stream_front read) ended (Some rest) how → EndsAs (filled_ending name filled how) outcome
      → AnswersFile (fill_opened name old.opened bytes (stream_front (read ++ rest))) outcome (reads_of new.states)
  answers_end ended end.Done ends worded =
      let whole = whole_ended read rest (stream_front read).state refl ends.1 in
      by_read (filled_ending name filled end.Done) whole.0 (done_is ends.0 whole.1) worded
  answers_end ended (end.Refused refusal) ends worded =
      refused_pieces (stream_front (read ++ rest)).pieces (verdict_at_end (stream_front (read ++ rest)).state) refusal
      (ap (first_refusal old.opened) (pieces_more read rest) ∙ still_refused old.opened (stream_front read).pieces _ refusal ends)
      (ap (taken_pieces old.opened) (pieces_more read rest) ∙ same_taken old.opened (stream_front read).pieces _ refusal ends) worded
  answers_end ended (end.Stream fault) ends worded =
      let whole = whole_refused read rest (stream_front read).state ended fault refl ends.1 in
      by_read (filled_ending name filled (end.Stream fault)) whole.0 (fault_is fault ends.0 whole.1) worded

-- ---- a history that is full

many_pieces : (entries count : ℕ) → entries ≡ 0 → MOST_ENTRIES < entries + 7 * count + 322 → least_before_full ≤ count
many_pieces entries count none many = let most : MOST_ENTRIES ≡ 67108864 = refl in omega arith

full_reads : (old new : Seen) (window : Window) (read rest bytes : List ℕ) (entries claimed : ℕ) → old.history ≡ [] → reads_of old.states ≡ Some bytes
    → IsFullFill old window (taken_pieces old.opened (stream_front read).pieces) entries claimed new → ReadsFull old.opened bytes (read ++ rest) (reads_of new.states)
full_reads old new window read rest bytes entries claimed fresh told f =
    let pieces = (stream_front read).pieces in
    let more : List Piece = (front_from (stream_front read).state rest).pieces in
    let front = taken_front old.opened pieces more f.count f.front.within in
    let whole = pieces_more read rest in
    let few : f.count ≤ length (stream_front (read ++ rest)).pieces =
    (let all = ap length whole in let both = length-append pieces more in let short : f.count ≤ length pieces = front.1 in omega (arith, all, both)) in
    record {
      left = (with_pieces old.opened (start_file bytes) (take f.count (taken_pieces old.opened pieces))).bytes;
      full = record {
        count = f.count;
        many = many_pieces (length old.history) f.count (ap length fresh) f.many;
        within = few;
        after_is = ap (λ (taken : List Piece). (with_pieces old.opened (start_file bytes) taken).bytes)
            (sym (ap (λ (ps : List Piece). taken_pieces old.opened (take f.count ps)) whole ∙ front.0));
      };
      reads_is = (f.front.are_in.contents (start_file bytes) told).reads;
    }

-- ---- all of it

module _ (name : List ℕ) (old new : Seen) (window : Window) (ended : Bool) (fresh : old.history ≡ []) (sound : (state_now old).failed ≡ None) where
  -- the status of an end
  end_status : (filled : Filled) (how : FillEnd) (outcome : CommandOutcome) → EndsAs (filled_ending name filled how) outcome → outcome.status.0 ≡ 7 → ⊥
  end_status filled end.Done outcome ends seven = let zero_is : outcome.status.0 ≡ 0 = ends.status_is in absurd (omega arith)
  end_status filled (end.Refused refusal) outcome ends seven = let three : outcome.status.0 ≡ 3 = ends.status_is in absurd (omega arith)
  end_status filled (end.Stream fault) outcome ends seven = let two : outcome.status.0 ≡ 2 = ends.status_is in absurd (omega arith)

  answer_told : (read rest bytes : List ℕ) (result : Result Filled FillFailure) (told : Result CommandOutcome Stop) → FillsWith old window (stream_front read) ended (Some rest) result new → TellsFill name result told
      → reads_of old.states ≡ Some bytes → IfOk told (λ outcome. outcome.status.0 ≢ 7 → AnswersFile (fill_opened name old.opened bytes (stream_front (read ++ rest))) outcome (reads_of new.states))
  answer_told read rest bytes (Ok filled) (Ok outcome) w tells reads = λ other. answers_end name old new window read rest filled bytes outcome w.1 reads ended filled.end w.0 tells.ends
  answer_told read rest bytes (Ok filled) (Err why) w tells reads = tt
  answer_told read rest bytes (Err (Source why)) told w tells reads = none_told told stop.Fault _ tells
  answer_told read rest bytes (Err (Stopped halt.DiskFault)) told w tells reads = none_told told stop.Fault _ tells
  answer_told read rest bytes (Err (Stopped (halt.Failed at))) told w tells reads = absurd tells
  answer_told read rest bytes (Err (Stopped (halt.HistoryFull entries claimed))) (Ok outcome) w tells reads = λ other. absurd (other tells.ends.status_is)
  answer_told read rest bytes (Err (Stopped (halt.HistoryFull entries claimed))) (Err why) w tells reads = tt
  answer_told read rest bytes (Err (Stopped halt.OutOfMemory)) told w tells reads = none_told told stop.OutOfMemory _ tells

  full_told : (read rest bytes : List ℕ) (result : Result Filled FillFailure) (told : Result CommandOutcome Stop) → FillsWith old window (stream_front read) ended (Some rest) result new → TellsFill name result told
      → reads_of old.states ≡ Some bytes → IfOk told (λ outcome. outcome.status.0 ≡ 7 → ReadsFull old.opened bytes (read ++ rest) (reads_of new.states))
  full_told read rest bytes (Ok filled) (Ok outcome) w tells reads = λ seven. absurd (end_status filled filled.end outcome tells.ends seven)
  full_told read rest bytes (Ok filled) (Err why) w tells reads = tt
  full_told read rest bytes (Err (Source why)) told w tells reads = none_told told stop.Fault _ tells
  full_told read rest bytes (Err (Stopped halt.DiskFault)) told w tells reads = none_told told stop.Fault _ tells
  full_told read rest bytes (Err (Stopped (halt.Failed at))) told w tells reads = absurd tells
  full_told read rest bytes (Err (Stopped (halt.HistoryFull entries claimed))) (Ok outcome) w tells reads = λ seven. full_reads old new window read rest bytes entries claimed fresh reads w
  full_told read rest bytes (Err (Stopped (halt.HistoryFull entries claimed))) (Err why) w tells reads = tt
  full_told read rest bytes (Err (Stopped halt.OutOfMemory)) told w tells reads = none_told told stop.OutOfMemory _ tells

  settled_told : (front : StreamFront) (left : Option (List ℕ)) (result : Result Filled FillFailure) (told : Result CommandOutcome Stop) → FillsWith old window front ended left result new → TellsFill name result told
      → Now new.states (λ disk. ReadsAs new.opened (state_now new) disk.reads) → Now new.states (λ disk. EachImage disk (λ image. Preserves image (parts_of (state_now new))))
      → status_of told ≢ 5 → status_of told ≢ 6 → Now new.states (KeepsAllOpen old.opened old.opening new.history)
  settled_told front left (Ok filled) told w tells reads images five six = settled_in old new window (taken_pieces old.opened front.pieces) filled.written filled.present new.states sound w.1 reads images
  settled_told front left (Err (Source why)) told w tells reads images five six = absurd (five (ap status_of tells))
  settled_told front left (Err (Stopped halt.DiskFault)) told w tells reads images five six = absurd (five (ap status_of tells))
  settled_told front left (Err (Stopped (halt.Failed at))) told w tells reads images five six = absurd tells
  settled_told front left (Err (Stopped (halt.HistoryFull entries claimed))) told w tells reads images five six =
      settled_in old new window (take w.count (taken_pieces old.opened front.pieces)) w.front.written w.front.present new.states sound w.front.are_in reads images
  settled_told front left (Err (Stopped halt.OutOfMemory)) told w tells reads images five six = absurd (six (ap status_of tells))

  answers_given : (before left : Option (List ℕ)) (read bytes : List ℕ) (result : Result Filled FillFailure) (told : Result CommandOutcome Stop) → before ≡ before_rest read left
      → FillsWith old window (stream_front read) ended left result new → TellsFill name result told → reads_of old.states ≡ Some bytes → AnswersOr name old.opened bytes before (reads_of new.states) told
  answers_given None left read bytes result told is w tells reads = tt
  answers_given (Some given) left read bytes result told is w tells reads =
      let g = given_is given read left is in
      subst (λ (b : List ℕ). IfOk told (λ outcome. outcome.status.0 ≢ 7 → AnswersFile (fill_opened name old.opened bytes (stream_front b)) outcome (reads_of new.states))) (sym g.2)
      (answer_told read g.0 bytes result told (subst (λ (l : Option (List ℕ)). FillsWith old window (stream_front read) ended l result new) g.1 w) tells reads)

  full_given : (before left : Option (List ℕ)) (read bytes : List ℕ) (result : Result Filled FillFailure) (told : Result CommandOutcome Stop) → before ≡ before_rest read left
      → FillsWith old window (stream_front read) ended left result new → TellsFill name result told → reads_of old.states ≡ Some bytes → IsFullOr old.opened bytes before (reads_of new.states) told
  full_given None left read bytes result told is w tells reads = tt
  full_given (Some given) left read bytes result told is w tells reads =
      let g = given_is given read left is in
      subst (λ (b : List ℕ). IfOk told (λ outcome. outcome.status.0 ≡ 7 → ReadsFull old.opened bytes b (reads_of new.states))) (sym g.2)
      (full_told read g.0 bytes result told (subst (λ (l : Option (List ℕ)). FillsWith old window (stream_front read) ended l result new) g.1 w) tells reads)

  same_cell : (before left : Option (List ℕ)) (result : Result Filled FillFailure) (told : Result CommandOutcome Stop) → FillsFrom old window before left ended result new → GivenBack new new.states → TellsFill name result told
      → FillsCell name old new.states before told
  same_cell before left result told fills back tells =
      let put = some_put old new window (stream_front fills.read) ended left result sound fills.fills in
      record {
        history = new.history;
        legal = subst (λ (s : FileState). IsLegal 0 (disk_tells new.states) s new.history) put.taken.opening back.legal;
        puts = puts_told old new before left fills.read fills.input_is fresh put;
        runs = runs_told old new fresh put.taken.runs;
        answer = λ bytes reads. answers_given before left fills.read bytes result told fills.input_is fills.fills tells reads;
        full = λ bytes reads. full_given before left fills.read bytes result told fills.input_is fills.fills tells reads;
        settled = settled_told (stream_front fills.read) left result told fills.fills tells back.reads back.images;
      }

pub fills_cell : (name : List ℕ) (old new : Seen) (states : List DiskState) (window : Window) (before left : Option (List ℕ)) (ended : Bool) (result : Result Filled FillFailure) (told : Result CommandOutcome Stop)
    → old.history ≡ [] → (state_now old).failed ≡ None → FillsFrom old window before left ended result new → GivenBack new states → TellsFill name result told → FillsCell name old states before told
fills_cell name old new states window before left ended result told fresh sound fills back tells =
    subst (λ (ds : List DiskState). FillsCell name old ds before told) (sym back.states_are)
    (same_cell name old new window ended fresh sound before left result told fills (record { states_are = refl; legal = back.legal; reads = back.reads; images = back.images }) tells)

-- ---- counts

pub fill_cause : (name : List ℕ) (old new : Seen) (now input_before input_now : ℕ) (window : Window) (front : StreamFront) (ended : Bool) (left : Option (List ℕ)) (result : Result Filled FillFailure) (told : Result CommandOutcome Stop)
    → old.count ≡ 0 → now ≡ new.count → FillsWith old window front ended left result new → HasSourceCause input_before input_now result → TellsFill name result told → HasEitherCause old.count now input_before input_now told
fill_cause name old new now ib inow window front ended left (Ok filled) told none is w source tells = record {
  later = omega arith;
  input_later = source.later;
  failed = λ e. absurd (no_fault told tells.wants e);
  kept = λ other. is ∙ w.1.count;
  input_kept = λ other. source.kept (λ no. no);
}
  where
    no_fault : (told : Result CommandOutcome Stop) → IfErr told (λ why. why ≡ stop.OutOfMemory) → told ≡ Err stop.Fault → ⊥
    no_fault (Ok outcome) wants e = absurd (cc)
    no_fault (Err why) wants e = absurd (let both : why ≡ stop.Fault = cc in let two : stop.OutOfMemory ≡ stop.Fault = sym wants ∙ both in cc)
fill_cause name old new now ib inow window front ended left (Err (Source why)) told none is w source tells = record {
  later = omega arith;
  input_later = source.later;
  failed = λ e. inr (source.failed tt);
  kept = λ other. absurd (other tells);
  input_kept = λ other. absurd (other tells);
}
fill_cause name old new now ib inow window front ended left (Err (Stopped halt.DiskFault)) told none is w source tells = record {
  later = omega arith;
  input_later = source.later;
  failed = λ e. inl (subst (λ (n : ℕ). Rose old.count n) (sym is) w.rose);
  kept = λ other. absurd (other tells);
  input_kept = λ other. absurd (other tells);
}
fill_cause name old new now ib inow window front ended left (Err (Stopped (halt.Failed at))) told none is w source tells = absurd tells
fill_cause name old new now ib inow window front ended left (Err (Stopped (halt.HistoryFull entries claimed))) told none is w source tells = record {
  later = omega arith;
  input_later = source.later;
  failed = λ e. absurd (no_fault told tells.wants e);
  kept = λ other. is ∙ w.front.are_in.count;
  input_kept = λ other. source.kept (λ no. no);
}
  where
    no_fault : (told : Result CommandOutcome Stop) → IfErr told (λ why. why ≡ stop.OutOfMemory) → told ≡ Err stop.Fault → ⊥
    no_fault (Ok outcome) wants e = absurd (cc)
    no_fault (Err why) wants e = absurd (let both : why ≡ stop.Fault = cc in let two : stop.OutOfMemory ≡ stop.Fault = sym wants ∙ both in cc)
fill_cause name old new now ib inow window front ended left (Err (Stopped halt.OutOfMemory)) told none is w source tells = record {
  later = omega arith;
  input_later = source.later;
  failed = λ e. absurd (let both : stop.OutOfMemory ≡ stop.Fault = one_stop told stop.OutOfMemory stop.Fault tells e in cc);
  kept = λ other. is ∙ w.1.are_in.count;
  input_kept = λ other. source.kept (λ no. no);
}
