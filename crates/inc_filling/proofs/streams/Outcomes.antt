-- What a fill comes to, from what was read and what is in.
use Rattle.std.proofs.Common.{◌≡◌, ℕ, Bool, false, List, [], ◌++◌, length, take, Option, Some, None, refl, sym, ap, subst, ◌∙◌, arith, append_assoc, append-nil, length-append}
use Rattle.std.specs.Prelude.{Ok, Err}
use Rattle.std.proofs.lemmas.List.{take-append-le, take_all}
use Rattle.inc_frame.specs.Fronts.{StreamState, Greeting, Framing, Ended, Faulty, StreamFront, fault_of, front_from, stream_front}
use Rattle.inc_frame.specs.declared.fault.FrameFault.{FrameFault}
use Rattle.inc_frame.specs.declared.piece.Piece.{Piece}
use Rattle.inc_frame.proofs.FedLemmas.{joined_bytes}
use Rattle.inc_loader.specs.Reading.{IsRefusedStream, before_rest, needs_no_read}
use Rattle.inc_loader.specs.declared.stream.piece_reader.PieceReader.{PieceReader}
use Rattle.inc_loader.proofs.ReadingLemmas.{IsOpen, is_open}
use Rattle.inc_model.specs.declared.words.event.Window.{Window}
use Rattle.inc_cell.specs.seen.Seen.{Seen}
use Rattle.inc_filling.specs.Filled.{AreIn, FillsFrom, FrontAreIn, StopsBy}
use Rattle.inc_filling.specs.Pieces.{AreTaken, piece_puts}
use Rattle.inc_filling.specs.Refusals.{first_refusal, taken_pieces}
use Rattle.inc_filling.specs.Rounds.{EndsReader, HasReadPieces}
use Rattle.inc_filling.specs.Streams.{EndsStream, FillGoesOn}
use Rattle.inc_filling.specs.declared.from_stream.filled.FillEnd.{FillEnd}
use Rattle.inc_filling.specs.declared.from_stream.filled.FillEnd.TheVariants.{Done, Refused, Stream}
use Rattle.inc_filling.specs.declared.from_stream.filled.FillFailure.TheVariants.{Source, Stopped}
use Rattle.inc_filling.specs.declared.stop.FillStop.{FillStop}
use Rattle.inc_filling.specs.declared.stop.FillStop.TheVariants.{DiskFault, Failed, HistoryFull, OutOfMemory}
use Rattle.inc_filling.proofs.streams.TakenPieces.{none_refused, refused_here, refused_later, taken_first, taken_none}

-- ---- a front of more pieces

front_more : (old new : Seen) (window : Window) (pieces more : List Piece) (count : ℕ) → FrontAreIn old window pieces count new → FrontAreIn old window (pieces ++ more) count new
front_more old new window pieces more count h = record {
  within = let within = h.within in omega (arith, length-append pieces more);
  written = h.written;
  present = h.present;
  are_in = subst (λ (l : List Piece). AreIn old window l h.written h.present new) (sym (take-append-le count pieces more h.within)) h.are_in;
}

pub stops_more : (old new : Seen) (window : Window) (pieces more : List Piece) (stop : FillStop) → StopsBy old window pieces stop new → StopsBy old window (pieces ++ more) stop new
stops_more old new window pieces more DiskFault h = record {
  front = h.front;
  within = let within = h.within in omega (arith, length-append pieces more);
  events = h.events;
  taken = h.taken;
  puts_are = h.puts_are ∙ ap (piece_puts old.opened) (sym (take-append-le h.front pieces more h.within));
  released = h.released;
  rose = h.rose;
}
stops_more old new window pieces more (Failed at) h = record {
  failed = h.failed;
  group = h.group;
  some = h.some;
  most = h.most;
  within = let within = h.within in omega (arith, length-append pieces more);
  taken = h.taken;
  count = h.count;
}
stops_more old new window pieces more (HistoryFull entries claimed) h = record {
  count = h.count;
  front = front_more old new window pieces more h.count h.front;
  group = h.group;
  some = h.some;
  most = h.most;
  within = let within = h.within in omega (arith, length-append pieces more);
  full = h.full;
  many = h.many;
}
stops_more old new window pieces more OutOfMemory h = (h.0, front_more old new window pieces more h.0 h.1)

pub all_in : (old new : Seen) (window : Window) (pieces : List Piece) (written present : ℕ) → AreIn old window pieces written present new → StopsBy old window pieces OutOfMemory new
all_in old new window pieces written present h = (
  length pieces,
  record {
    within = omega arith;
    written = written;
    present = present;
    are_in = subst (λ (l : List Piece). AreIn old window l written present new) (sym (take_all (length pieces) pieces (omega arith))) h;
  },
)

-- ---- the input

nothing_held : (left : Option (List ℕ)) → before_rest [] left ≡ left
nothing_held None = refl
nothing_held (Some bytes) = refl

held_too : (bytes held : List ℕ) (left : Option (List ℕ)) → before_rest bytes (before_rest held left) ≡ before_rest (bytes ++ held) left
held_too bytes held None = refl
held_too bytes held (Some rest) = ap (λ (l : List ℕ). Some l) (sym (append_assoc bytes held rest))

none_of_room : (n : ℕ) (room : List ℕ) → n ≡ 0 → take n room ≡ []
none_of_room n room e = ap (λ (k : ℕ). take k room) e

no_fault_read : (state : StreamState) (source_ended : Bool) (coming : Option (List ℕ)) → IsRefusedStream state source_ended coming None → fault_of state ≡ None
no_fault_read (Faulty own) source_ended coming h = absurd (cc)
no_fault_read (Ended count) source_ended coming h = refl
no_fault_read (Greeting seen) source_ended coming h = refl
no_fault_read (Framing limit count rest) source_ended coming h = refl

abbrev the_front : List Piece → StreamState → StreamFront
the_front pieces state = record { pieces = pieces; state = state }

-- ---- the outcomes

module _ (start new : Seen) (window : Window) (all left : Option (List ℕ)) (bytes : List ℕ) (pieces : List Piece) (reader : PieceReader) (source_ended : Bool)
    (h : HasReadPieces all bytes pieces reader source_ended left) (taken : AreTaken start.opened pieces) where
  -- where no byte waits for memory
  fed_input : reader.filled ≡ 0 → all ≡ before_rest bytes left
  fed_input fed = h.input_is ∙ ap (λ (held : List ℕ). before_rest bytes (before_rest held left)) (none_of_room reader.filled reader.room.items fed) ∙ ap (before_rest bytes) (nothing_held left)

  fed_refused : reader.filled ≡ 0 → IsRefusedStream reader.reader.state source_ended left reader.refused
  fed_refused fed =
      subst (λ (coming : Option (List ℕ)). IsRefusedStream reader.reader.state source_ended coming reader.refused)
      (ap (λ (held : List ℕ). before_rest held left) (none_of_room reader.filled reader.room.items fed) ∙ nothing_held left) h.refused_is

  ends_with : (end : FillEnd) → reader.filled ≡ 0 → EndsReader start.opened reader end
      → (EndsStream start.opened (the_front (pieces ++ reader.whole.items) reader.reader.state) source_ended left end) × (taken_pieces start.opened (pieces ++ reader.whole.items) ≡ pieces)
  ends_with (Refused refusal) fed ends = (
    refused_later start.opened pieces reader.whole.items taken ∙ ap (first_refusal start.opened) ends.2 ∙ refused_here start.opened ends.0 ends.1 refusal ends.3,
    taken_first start.opened pieces reader.whole.items taken ∙ ap (λ (l : List Piece). pieces ++ taken_pieces start.opened l) ends.2 ∙ ap (λ (l : List Piece). pieces ++ l) (taken_none start.opened ends.0 ends.1 refusal ends.3) ∙ append-nil pieces,
  )
  ends_with (Stream fault) fed ends = (
    (refused_later start.opened pieces reader.whole.items taken ∙ ap (first_refusal start.opened) ends.0, subst (λ (refused : Option FrameFault). IsRefusedStream reader.reader.state source_ended left refused) ends.1 (fed_refused fed)),
    taken_first start.opened pieces reader.whole.items taken ∙ ap (λ (l : List Piece). pieces ++ taken_pieces start.opened l) ends.0 ∙ append-nil pieces,
  )
  ends_with Done fed ends = (
    (refused_later start.opened pieces reader.whole.items taken ∙ ap (first_refusal start.opened) ends.0, ends.1),
    taken_first start.opened pieces reader.whole.items taken ∙ ap (λ (l : List Piece). pieces ++ taken_pieces start.opened l) ends.0 ∙ append-nil pieces,
  )

  pub fills_to_end : (written present : ℕ) (end : FillEnd) → reader.filled ≡ 0 → EndsReader start.opened reader end → AreIn start window pieces written present new
      → FillsFrom start window all left source_ended (Ok (record { written = written; present = present; end = end })) new
  fills_to_end written present end fed ends are =
      let with = ends_with end fed ends in
      record {
        read = bytes;
        input_is = fed_input fed;
        fills = (
          subst (λ (front : StreamFront). EndsStream start.opened front source_ended left end) (sym h.front_is) with.0,
          subst (λ (l : List Piece). AreIn start window l written present new) (sym (ap (λ (front : StreamFront). taken_pieces start.opened front.pieces) h.front_is ∙ with.1)) are,
        );
      }

  -- the stream was on its way
  open_front : IsOpen reader.whole.items reader.refused reader.reader.state → stream_front bytes ≡ the_front pieces reader.reader.state
  open_front idle = h.front_is ∙ ap (λ (l : List Piece). the_front l reader.reader.state) (ap (λ (l : List Piece). pieces ++ l) idle.none_whole ∙ append-nil pieces)

  goes_on : IsOpen reader.whole.items reader.refused reader.reader.state → FillGoesOn start.opened (the_front pieces reader.reader.state)
  goes_on idle = let coming = before_rest (take reader.filled reader.room.items) left in record {
    none_refused = none_refused start.opened pieces taken;
    no_fault = no_fault_read reader.reader.state source_ended coming (subst (λ (refused : Option FrameFault). IsRefusedStream reader.reader.state source_ended coming refused) idle.not_refused h.refused_is);
    no_end = idle.not_ended;
  }

  pub fills_to_fault : (written present : ℕ) → reader.filled ≡ 0 → needs_no_read reader.whole.items reader.refused reader.reader.state ≡ false → AreIn start window pieces written present new
      → FillsFrom start window all left source_ended (Err (Source None)) new
  fills_to_fault written present fed going are =
      let idle = is_open reader.whole.items reader.refused reader.reader.state going in
      record {
        read = bytes;
        input_is = fed_input fed;
        fills = (
          subst (λ (front : StreamFront). FillGoesOn start.opened front) (sym (open_front idle)) (goes_on idle),
          written,
          present,
          subst (λ (front : StreamFront). AreIn start window front.pieces written present new) (sym (open_front idle)) are,
        );
      }

  pub stops_at_fault : (stop : FillStop) → reader.filled ≡ 0 → needs_no_read reader.whole.items reader.refused reader.reader.state ≡ false → StopsBy start window pieces stop new
      → FillsFrom start window all left source_ended (Err (Source (Some stop))) new
  stops_at_fault stop fed going stops =
      let idle = is_open reader.whole.items reader.refused reader.reader.state going in
      record {
        read = bytes;
        input_is = fed_input fed;
        fills = (
          subst (λ (front : StreamFront). FillGoesOn start.opened front) (sym (open_front idle)) (goes_on idle),
          subst (λ (front : StreamFront). StopsBy start window front.pieces stop new) (sym (open_front idle)) stops,
        );
      }

  -- more bytes may wait for memory
  pub fills_to_stop : (stop : FillStop) → StopsBy start window pieces stop new → FillsFrom start window all left source_ended (Err (Stopped stop)) new
  fills_to_stop stop stops =
      let held = take reader.filled reader.room.items in
      let further = front_from reader.reader.state held in
      let front : stream_front (bytes ++ held) ≡ the_front ((pieces ++ reader.whole.items) ++ further.pieces) further.state = joined_bytes bytes held (pieces ++ reader.whole.items) further.pieces reader.reader.state further.state h.front_is refl in
      let all_of : taken_pieces start.opened (stream_front (bytes ++ held)).pieces ≡ pieces ++ taken_pieces start.opened (reader.whole.items ++ further.pieces) =
      ap (λ (f : StreamFront). taken_pieces start.opened f.pieces) front ∙ ap (taken_pieces start.opened) (append_assoc pieces reader.whole.items further.pieces) ∙ taken_first start.opened pieces (reader.whole.items ++ further.pieces) taken in
      record {
        read = bytes ++ held;
        input_is = h.input_is ∙ held_too bytes held left;
        fills = subst (λ (l : List Piece). StopsBy start window l stop new) (sym all_of) (stops_more start new window pieces (taken_pieces start.opened (reader.whole.items ++ further.pieces)) stop stops);
      }
