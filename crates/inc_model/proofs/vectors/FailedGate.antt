-- The seventh call to the device fails, as it writes a gate. The replies and the end were given by a model of the events that was written apart from this repository.
use Rattle.std.proofs.Common.{◌≡◌, List, [], ◌∷◌, Some, None, refl}
use Rattle.inc_tree.specs.shape.Geometry.{levels, level_counts}
use Rattle.inc_ranges.specs.Runs.{runs_from}
use Rattle.inc_model.specs.declared.words.event.Event.TheVariants.{Ask, Poll, Claim, PutData, PutPlace, Settle, Gate, Release}
use Rattle.inc_model.specs.declared.words.file_state.FileState.{FileState}
use Rattle.inc_model.specs.declared.words.reply.Reply.{Reply}
use Rattle.inc_model.specs.declared.words.reply.Reply.TheVariants.{Asked, Handed, TimedOut, Fault, Failed, Claimed, Put, Placed, Settled, Gated, Released}
use Rattle.inc_model.specs.relation.Polling.{absent_hash, absent_from}
use Rattle.inc_model.specs.relation.Table.{presence}
use Rattle.inc_model.proofs.vectors.Calls.{Call, asks, fails, replies, state_then, used_up, window}
use Rattle.inc_model.proofs.vectors.FailingFile.{digest_0, digest_1, digest_2, digest_3, the_id, start}

abbrev end : FileState
end = record {
  id = the_id;
  n = 3;
  m = 1;
  root = None;
  map = (0, digest_1) ∷ (3, digest_0) ∷ [];
  damaged = [];
  compressed = [];
  reads = [];
  next = 3;
  times = [];
  flight = [];
  claimed = [];
  begun = (0, digest_1) ∷ (1, digest_2) ∷ [];
  acknowledged = 3 ∷ [];
  faults = 1;
  failed = Some 7;
  readers = 1;
}

abbrev calls : List Call
calls =
    asks 2 (Claim (window 2 0) 11)
    ∷ asks 2 (PutData (window 2 0) 0 digest_1)
    ∷ asks 2 (PutData (window 2 0) 1 digest_2)
    ∷ asks 2 (PutPlace (window 2 0) 0)
    ∷ asks 2 (PutPlace (window 2 0) 1)
    ∷ asks 2 (Settle (window 2 0))
    ∷ asks 2 (Gate (window 2 0) 0)
    ∷ fails 2 (Gate (window 2 0) 1)
    ∷ asks 2 (Settle (window 2 0))
    ∷ asks 2 (Release (window 2 0))
    ∷ asks 1 (Ask 0 0 10)
    ∷ asks 1 (Poll 1 10)
    ∷ asks 2 (Claim (window 2 1) 6)
    ∷ asks 2 (PutData (window 2 1) 2 digest_3)
    ∷ asks 1 (Ask 2 0 10)
    ∷ asks 1 (Poll 2 1000010)
    ∷ []

abbrev wanted : List Reply
wanted =
    Claimed
    ∷ Put 0 digest_1
    ∷ Put 0 digest_2
    ∷ Placed
    ∷ Placed
    ∷ Settled
    ∷ Gated 0
    ∷ Fault 1
    ∷ Failed 7
    ∷ Released
    ∷ Asked 1
    ∷ Handed digest_1
    ∷ Failed 7
    ∷ Failed 7
    ∷ Asked 2
    ∷ TimedOut 1000010
    ∷ []

replies_are : replies 0 start calls ≡ wanted
unfolding absent_hash absent_from levels level_counts presence runs_from
replies_are = refl

ends_so : used_up (state_then 0 start calls) ≡ end
unfolding absent_hash absent_from levels level_counts presence runs_from
ends_so = refl
