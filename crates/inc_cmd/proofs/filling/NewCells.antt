-- A content goes into a new cell: what its disk then reads as and leaves.
use Rattle.std.proofs.Common.{◌≡◌, inl, ℕ, List, [], Option, Some, None, Result, Ok, Err, refl, sym, ap, ◌∙◌, subst, arith, append-nil, zero-add}
use Rattle.std.specs.Prelude.{IfOk}
use Rattle.inc_io.specs.Causes.{HasCauseAt, Rose}
use Rattle.inc_disk.specs.Disk.{DiskState, Now, reads_of}
use Rattle.inc_frame.specs.declared.piece.Piece.{Piece}
use Rattle.inc_layout.specs.declared.opened.Opened.{Opened}
use Rattle.inc_model.specs.relation.Step.{IsLegal}
use Rattle.inc_model.specs.declared.words.event.Window.{Window}
use Rattle.inc_model.specs.declared.words.file_state.FileState.{FileState}
use Rattle.inc_cell.specs.seen.Opens.{cell_on}
use Rattle.inc_cell.specs.seen.Seen.{Seen, state_now, tells as disk_tells}
use Rattle.inc_filling.specs.Contents.{FilledFile, filled_file, with_pieces}
use Rattle.inc_filling.specs.Filled.{AreIn, StopsBy}
use Rattle.inc_filling.specs.Generated.{FillsAll}
use Rattle.inc_filling.specs.Pieces.{AreTaken}
use Rattle.inc_filling.specs.declared.from_stream.rounds.FillTotals.{FillTotals}
use Rattle.inc_filling.specs.declared.stop.FillStop.{FillStop}
use Rattle.inc_filling.specs.declared.stop.FillStop.TheVariants as halt
use Rattle.inc_filling.proofs.streams.TakenPieces.{all_taken}
use Rattle.inc_words.specs.declared.stop.Stop.{Stop}
use Rattle.inc_words.specs.declared.stop.Stop.TheVariants as stop
use Rattle.inc_cmd.specs.Commands.FillMoments.{KeepsAllOpen}
use Rattle.inc_cmd.specs.NewFiles.{FillsContent, HoldsAllOf, TellsTotals}
use Rattle.inc_cmd.proofs.filling.CellPuts.{GivenBack, PutSome, all_put, puts_begin, runs_told, settled_in, stop_put}
use Rattle.inc_cmd.proofs.filling.DiskFills.{no_puts}

abbrev none_yet : List ℕ → FilledFile
none_yet bytes = record { bytes = bytes; written = 0; present = 0 }

no_outcome : (told : Result (Option ℕ) Stop) (why : Stop) (P : Option ℕ → Type 0) → told ≡ Err why → IfOk told P
no_outcome told why P is = subst (λ (r : Result (Option ℕ) Stop). IfOk r P) (sym is) tt

module _ (old new : Seen) (window : Window) (pieces : List Piece) (fresh : old.history ≡ []) (sound : (state_now old).failed ≡ None) (taken : AreTaken old.opened pieces) where
  with_put : (told : Result (Option ℕ) Stop) → PutSome old new pieces → GivenBack new new.states
      → ((bytes : List ℕ) → reads_of old.states ≡ Some bytes → IfOk told (HoldsAllOf (filled_file old.opened bytes pieces) (reads_of new.states)))
      → IfOk told (λ written. Now new.states (KeepsAllOpen old.opened old.opening new.history)) → FillsContent old new.states pieces told
  with_put told put back contents settled = record {
    history = new.history;
    legal = subst (λ (s : FileState). IsLegal 0 (disk_tells new.states) s new.history) put.taken.opening back.legal;
    puts = puts_begin old new pieces pieces [] fresh (all_taken old.opened pieces taken ∙ sym (append-nil pieces)) put;
    runs = runs_told old new fresh put.taken.runs;
    contents = contents;
    settled = settled;
  }

  reads_filled : (totals : FillTotals) → AreIn old window pieces totals.written totals.present new → (bytes : List ℕ) → reads_of old.states ≡ Some bytes
      → HoldsAllOf (filled_file old.opened bytes pieces) (reads_of new.states) (Some totals.written)
  reads_filled totals are bytes told =
      let all = sym (all_taken old.opened pieces taken) in
      let fills = are.contents (none_yet bytes) told in
      record {
        reads_is = fills.reads ∙ ap (λ (ps : List Piece). Some (with_pieces old.opened (none_yet bytes) ps).bytes) all;
        written_is = sym (zero-add totals.written) ∙ sym fills.written_is ∙ ap (λ (ps : List Piece). (with_pieces old.opened (none_yet bytes) ps).written) all;
      }

  all_in : (totals : FillTotals) (told : Result (Option ℕ) Stop) → told ≡ Ok (Some totals.written) → AreIn old window pieces totals.written totals.present new → GivenBack new new.states → FillsContent old new.states pieces told
  all_in totals told is are back =
      subst (FillsContent old new.states pieces) (sym is)
      (with_put (Ok (Some totals.written)) (all_put old new window pieces totals.written totals.present are) back (reads_filled totals are)
      (settled_in old new window pieces totals.written totals.present new.states sound are back.reads back.images))

  stopped : (why : FillStop) (told : Result (Option ℕ) Stop) (with : Stop) → told ≡ Err with → StopsBy old window pieces why new → GivenBack new new.states → FillsContent old new.states pieces told
  stopped why told with is stops back =
      with_put told (stop_put old new window pieces why sound stops) back (λ bytes reads. no_outcome told with (HoldsAllOf (filled_file old.opened bytes pieces) (reads_of new.states)) is)
      (no_outcome told with (λ written. Now new.states (KeepsAllOpen old.opened old.opening new.history)) is)

  same_cell : (filled : Result FillTotals FillStop) (told : Result (Option ℕ) Stop) → FillsAll old window pieces filled new → GivenBack new new.states → TellsTotals filled told → FillsContent old new.states pieces told
  same_cell (Ok totals) told fills back tells = all_in totals told tells fills back
  same_cell (Err halt.DiskFault) told fills back tells = stopped halt.DiskFault told stop.Fault tells fills back
  same_cell (Err (halt.Failed at)) told fills back tells = absurd tells
  same_cell (Err (halt.HistoryFull entries claimed)) told fills back tells = absurd tells
  same_cell (Err halt.OutOfMemory) told fills back tells = stopped halt.OutOfMemory told stop.OutOfMemory tells fills back

pub fills_content : (old new : Seen) (states : List DiskState) (window : Window) (pieces : List Piece) (filled : Result FillTotals FillStop) (told : Result (Option ℕ) Stop) → old.history ≡ [] → (state_now old).failed ≡ None
    → AreTaken old.opened pieces → FillsAll old window pieces filled new → GivenBack new states → TellsTotals filled told → FillsContent old states pieces told
fills_content old new states window pieces filled told fresh sound taken fills back tells =
    subst (λ (ds : List DiskState). FillsContent old ds pieces told) (sym back.states_are)
    (same_cell old new window pieces fresh sound taken filled told fills (record { states_are = refl; legal = back.legal; reads = back.reads; images = back.images }) tells)

-- without memory for a cell
pub no_content : (mid new : List DiskState) (opened : Opened) (pieces : List Piece) → new ≡ mid → FillsContent (cell_on mid 0 opened 0) new pieces (Err stop.OutOfMemory)
no_content mid new opened pieces same = record {
  history = [];
  legal = tt;
  puts = no_puts opened pieces;
  runs = inl same;
  contents = λ bytes reads. tt;
  settled = tt;
}

-- ---- counts

pub content_cause : (old new : Seen) (now : ℕ) (window : Window) (pieces : List Piece) (filled : Result FillTotals FillStop) (told : Result (Option ℕ) Stop) → old.count ≡ 0 → now ≡ new.count → FillsAll old window pieces filled new
    → TellsTotals filled told → HasCauseAt stop.Fault old.count now told
content_cause old new now window pieces (Ok totals) told none is fills tells = record {
  later = omega (arith, is, fills.count);
  failed = λ e. absurd (let both : Ok (Some totals.written) ≡ Err stop.Fault = sym tells ∙ e in cc);
  kept = λ other. is ∙ fills.count;
}
content_cause old new now window pieces (Err halt.DiskFault) told none is fills tells = record {
  later = omega (arith, none);
  failed = λ e. subst (λ (n : ℕ). Rose old.count n) (sym is) fills.rose;
  kept = λ other. absurd (other tells);
}
content_cause old new now window pieces (Err (halt.Failed at)) told none is fills tells = absurd tells
content_cause old new now window pieces (Err (halt.HistoryFull entries claimed)) told none is fills tells = absurd tells
content_cause old new now window pieces (Err halt.OutOfMemory) told none is fills tells = record {
  later = omega (arith, is, fills.1.are_in.count);
  failed = λ e. absurd (let both : Err stop.OutOfMemory ≡ Err stop.Fault = sym tells ∙ e in cc);
  kept = λ other. is ∙ fills.1.are_in.count;
}
