-- The third call to the device fails, as it writes a place. The replies and the end were given by a model of the events that was written apart from this repository.
use Rattle.std.proofs.Common.{◌≡◌, false, List, [], ◌∷◌, Some, None, refl}
use Rattle.inc_tree.specs.shape.Geometry.{levels, level_counts}
use Rattle.inc_ranges.specs.Runs.{runs_from}
use Rattle.inc_model.specs.declared.words.event.Event.TheVariants.{Ask, Poll, Claim, PutData, PutPlace, Settle, Gate, Release}
use Rattle.inc_model.specs.declared.words.file_state.FileState.{FileState}
use Rattle.inc_model.specs.declared.words.reply.Reply.{Reply}
use Rattle.inc_model.specs.declared.words.reply.Reply.TheVariants.{Asked, TimedOut, NotYet, Fault, Failed, Claimed, Put, Released}
use Rattle.inc_model.specs.relation.Polling.{absent_hash, absent_from}
use Rattle.inc_model.specs.relation.Table.{presence}
use Rattle.inc_model.proofs.vectors.Calls.{Call, asks, fails, replies, state_then, used_up, window, read}
use Rattle.inc_model.proofs.vectors.FailingFile.{digest_0, digest_1, digest_2, digest_3, the_id, start}

abbrev end : FileState
end = record {
  id = the_id;
  n = 3;
  m = 1;
  root = None;
  map = (3, digest_0) ∷ [];
  damaged = [];
  compressed = [];
  reads = read 1 1 0 0 10 10 1000010 false ∷ [];
  next = 3;
  times = [];
  flight = [];
  claimed = [];
  begun = [];
  acknowledged = 3 ∷ [];
  faults = 1;
  failed = Some 3;
  readers = 1;
}

abbrev calls : List Call
calls =
    asks 2 (Claim (window 2 0) 11)
    ∷ asks 2 (PutData (window 2 0) 0 digest_1)
    ∷ asks 2 (PutData (window 2 0) 1 digest_2)
    ∷ fails 2 (PutPlace (window 2 0) 0)
    ∷ asks 2 (PutPlace (window 2 0) 1)
    ∷ asks 2 (Settle (window 2 0))
    ∷ asks 2 (Gate (window 2 0) 0)
    ∷ asks 2 (Gate (window 2 0) 1)
    ∷ asks 2 (Settle (window 2 0))
    ∷ asks 2 (Release (window 2 0))
    ∷ asks 1 (Ask 0 0 10)
    ∷ asks 1 (Poll 1 10)
    ∷ asks 2 (Claim (window 2 1) 6)
    ∷ asks 2 (PutData (window 2 1) 2 digest_3)
    ∷ asks 1 (Ask 2 0 10)
    ∷ asks 1 (Poll 2 1000010)
    ∷ []

abbrev wanted : List Reply
wanted =
    Claimed
    ∷ Put 0 digest_1
    ∷ Put 0 digest_2
    ∷ Fault 1
    ∷ Failed 3
    ∷ Failed 3
    ∷ Failed 3
    ∷ Failed 3
    ∷ Failed 3
    ∷ Released
    ∷ Asked 1
    ∷ NotYet
    ∷ Failed 3
    ∷ Failed 3
    ∷ Asked 2
    ∷ TimedOut 1000010
    ∷ []

replies_are : replies 0 start calls ≡ wanted
unfolding absent_hash absent_from levels level_counts presence runs_from
replies_are = refl

ends_so : used_up (state_then 0 start calls) ≡ end
unfolding absent_hash absent_from levels level_counts presence runs_from
ends_so = refl
