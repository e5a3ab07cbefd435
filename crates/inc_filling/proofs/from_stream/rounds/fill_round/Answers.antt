use Rattle.std.proofs.Common.{◌≡◌, ◌++◌, ◌+◌, List, Option, [], sym, subst, ap, ◌∙◌, append-nil}
use Rattle.std.specs.Prelude.{Result, IfOk}
use Rattle.inc_frame.specs.declared.piece.Piece.{Piece}
use Rattle.inc_layout.specs.declared.opened.Opened.{Opened}
use Rattle.inc_filling.specs.Pieces.{AreTaken}
use Rattle.inc_filling.specs.Rounds.{HasReadPieces, PausesAt, RoundsTo}
use Rattle.inc_filling.specs.declared.from_stream.filled.FillEnd.{FillEnd}
use Rattle.inc_filling.specs.declared.from_stream.filled.FillFailure.{FillFailure}
use Rattle.inc_filling.proofs.streams.RoundSteps.{round_ends}
use Rattle.inc_filling.proofs.streams.TakenPieces.{taken_more}
use Rattle.inc_filling.proofs.from_stream.rounds.fill_round.Goals as goal

none_waits : (gave waiting : List Piece) → waiting ≡ [] → gave ≡ gave ++ waiting
none_waits gave waiting none = sym (append-nil gave) ∙ ap (λ (l : List Piece). gave ++ l) (sym none)

pub returns-clause-rounds : goal.returns-clause-rounds
returns-clause-rounds g c = λ start all h.
    let waiting = c.gather-pause.new.waiting.pieces.items in
    let reader = c.gather-pause.new.pieces in
    let source_ended = g.I.Source.ended c.gather-pause.new.input in
    let left = g.I.Source.left c.gather-pause.new.input in
    let same = h.are_in.taken.opened in
    let on = c.gather-pause.ensures.front all h.bytes h.gave
    (subst (λ (l : List Piece). HasReadPieces all h.bytes l c.args.pieces.now (g.I.Source.ended c.args.input.now) (g.I.Source.left c.args.input.now)) (none_waits h.gave c.args.waiting.now.pieces.items c.requires.empty) h.has_read) in
    let taken = taken_more start.opened h.gave waiting h.taken (subst (λ (o : Opened). AreTaken o waiting) same c.gather-pause.ensures.may.taken) in
    subst (λ (result : Result (Option FillEnd) FillFailure). RoundsTo start c.args.window all (c.args.totals.now.written + c.args.totals.now.present) c.fill_waiting-filled.new.totals.written c.fill_waiting-filled.new.totals.present reader source_ended left result c.fill_waiting-filled.new.cell) (sym c.outcome.ensures.value)
    (round_ends start c.fill_waiting-filled.new.cell c.args.window all left (h.bytes ++ on.0) h.gave waiting reader source_ended (c.args.totals.now.written + c.args.totals.now.present) c.fill_waiting-filled.new.totals.written c.fill_waiting-filled.new.totals.present
    c.gather-pause.result c.fill_waiting-filled.result on.1 taken h.are_in.all_told
    (subst (λ (o : Opened). IfOk c.gather-pause.result (λ p. PausesAt o waiting reader p)) same c.gather-pause.ensures.pauses)
    c.gather-pause.ensures.going c.gather-pause.ensures.fed (c.fill_waiting-filled.ensures.fills start h.gave h.are_in))
