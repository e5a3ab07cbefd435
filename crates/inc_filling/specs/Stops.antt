-- What a cell's answer is to a fill: a reply with which it goes on, or why it stops.
use Rattle.std.specs.Prelude.{Bool, true, false, Result, Ok, Err}
use Rattle.inc_model.specs.declared.words.reply.Reply.{Reply}
use Rattle.inc_model.specs.declared.words.reply.Reply.TheVariants.{Failed, Fault, Put}
use Rattle.inc_cell.specs.declared.words.answer.CellReply.{CellReply}
use Rattle.inc_cell.specs.declared.words.answer.CellReply.TheVariants.{Done, HistoryFull, OutOfMemory}
use Rattle.inc_filling.specs.declared.stop.FillStop.{FillStop}
use Rattle.inc_filling.specs.declared.stop.FillStop.TheVariants as stop

abbrev pub going_on : Reply → Result Reply FillStop
going_on (Fault count) = Err stop.DiskFault
going_on (Failed at) = Err (stop.Failed at)
going_on reply = Ok reply

abbrev pub goes_on : CellReply → Result Reply FillStop
goes_on (Done reply) = going_on reply
goes_on (HistoryFull entries claimed) = Err (stop.HistoryFull entries claimed)
goes_on OutOfMemory = Err stop.OutOfMemory

abbrev pub is_put : Reply → Bool
is_put (Put place digest) = true
is_put reply = false

abbrev pub was_put : Result Reply FillStop → Result Bool FillStop
was_put (Ok reply) = Ok (is_put reply)
was_put (Err stop) = Err stop
