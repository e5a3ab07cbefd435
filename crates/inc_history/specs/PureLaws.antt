-- The laws of a machine, for a file without a device.
use Rattle.std.specs.Prelude.{◌≡◌, ℕ, List, ◌++◌, Some, None, Result, Ok, Err}
use Rattle.inc_model.specs.declared.words.event.Event.{Event}
use Rattle.inc_history.specs.declared.pure_file.PureFault.{PureFault}
use Rattle.inc_history.specs.declared.pure_file.PureFault.TheVariants.{HistoryFull, OutOfMemory}
use Rattle.inc_model.specs.declared.words.reply.Entry.{Entry}
use Rattle.inc_model.specs.declared.words.reply.Reply.{Reply}
use Rattle.inc_model.specs.declared.words.reply.Reply.TheVariants.{NotYet}
use Rattle.inc_model.specs.histories.Machines.{Grows}
use Rattle.inc_history.specs.PureState.{Pure}
use Rattle.inc_model.specs.executed.EntriesLeft.{entry_left}
use Rattle.inc_history.specs.PureStep.{PureSteps}
use Rattle.std.proofs.Common.{refl, sym, ap, ◌∙◌, append-nil}

nothing : (who : ℕ) (old new : Pure) → new ≡ old → Grows who old.history new.history
nothing who old new e = record { entry = None; own = tt; joined = ap (λ (p : Pure). p.history) e ∙ sym (append-nil old.history) }

grown_by : (who : ℕ) (event : Event) (reply : Reply) (before after : List Entry) → after ≡ before ++ entry_left who event reply → Grows who before after
grown_by who event NotYet before after e = record { entry = None; own = tt; joined = e }
grown_by who event reply before after e = record { entry = Some (record { who = who; event = event; reply = reply }); own = refl; joined = e }

pub pure_grows : (old : Pure) (who : ℕ) (event : Event) (answer : Result Reply PureFault) (new : Pure) → PureSteps old who event answer new → Grows who old.history new.history
pure_grows old who event (Ok reply) new steps = grown_by who event reply old.history new.history steps.history
pure_grows old who event (Err (HistoryFull entries claimed)) new steps = nothing who old new steps.same
pure_grows old who event (Err OutOfMemory) new steps = nothing who old new steps.same

pub pure_stays : (old : Pure) (who : ℕ) (event : Event) (answer : Result Reply PureFault) (new : Pure) → PureSteps old who event answer new → new.first ≡ old.first
pure_stays old who event (Ok reply) new steps = steps.first
pure_stays old who event (Err (HistoryFull entries claimed)) new steps = ap (λ (p : Pure). p.first) steps.same
pure_stays old who event (Err OutOfMemory) new steps = ap (λ (p : Pure). p.first) steps.same
