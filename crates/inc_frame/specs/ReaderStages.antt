-- What a reader's stage says of its stream, and what callers see of a reader.
use Rattle.std.specs.Prelude.{◌++◌, take}
use Rattle.inc_frame.specs.Fronts.{StreamState, Greeting, Framing, Ended, Faulty}
use Rattle.inc_frame.specs.declared.stage.ReadStage.{ReadStage}
use Rattle.inc_frame.specs.declared.stage.ReadStage.TheVariants as stage

abbrev pub stage_state : ReadStage → StreamState
stage_state (stage.Hello part) = Greeting (take part.have part.seen)
stage_state (stage.Head part) = Framing part.limit part.place (take part.have part.head)
stage_state (stage.Body part) = Framing part.limit part.place (part.head ++ part.body.items)
stage_state (stage.Ended count) = Ended count
stage_state (stage.Failed failure) = Faulty failure.fault
