-- A block whose hash block is absent, and the end of the clock. The replies and the end were given by a model of the events that was written apart from this repository.
use Rattle.std.proofs.Common.{◌≡◌, ℕ, List, [], ◌∷◌, None, refl}
use Rattle.inc_tree.specs.shape.Geometry.{levels, level_counts}
use Rattle.inc_ranges.specs.Runs.{runs_from}
use Rattle.inc_model.specs.declared.words.event.Event.TheVariants.{Ask, Poll}
use Rattle.inc_model.specs.declared.words.file_state.FileState.{FileState}
use Rattle.inc_model.specs.declared.words.reply.Reply.{Reply}
use Rattle.inc_model.specs.declared.words.reply.Reply.TheVariants.{Asked, NoPath, TimedOut, NotYet}
use Rattle.inc_model.specs.relation.Polling.{absent_hash, absent_from}
use Rattle.inc_model.specs.relation.Table.{presence}
use Rattle.inc_model.proofs.vectors.Calls.{Call, asks, replies, state_then, used_up}

abbrev digest_0 : List ℕ
digest_0 = 173 ∷ 127 ∷ 172 ∷ 178 ∷ 88 ∷ 111 ∷ 198 ∷ 233 ∷ 102 ∷ 192 ∷ 4 ∷ 215 ∷ 209 ∷ 209 ∷ 107 ∷ 2 ∷ 79 ∷ 88 ∷ 5 ∷ 255 ∷ 124 ∷ 180 ∷ 124 ∷ 122 ∷ 133 ∷ 218 ∷ 189 ∷ 139 ∷ 72 ∷ 137 ∷ 44 ∷ 167 ∷ []

abbrev the_id : List ℕ
the_id = 0 ∷ 0 ∷ 0 ∷ 0 ∷ 0 ∷ 0 ∷ 0 ∷ 0 ∷ 0 ∷ 0 ∷ 0 ∷ 0 ∷ 0 ∷ 0 ∷ 0 ∷ 0 ∷ []

abbrev start : FileState
start = record {
  id = the_id;
  n = 3;
  m = 1;
  root = None;
  map = (0, digest_0) ∷ [];
  damaged = [];
  compressed = [];
  reads = [];
  next = 1;
  times = [];
  flight = [];
  claimed = [];
  begun = [];
  acknowledged = 0 ∷ [];
  faults = 0;
  failed = None;
  readers = 1;
}

abbrev end : FileState
end = record {
  id = the_id;
  n = 3;
  m = 1;
  root = None;
  map = (0, digest_0) ∷ [];
  damaged = [];
  compressed = [];
  reads = [];
  next = 3;
  times = [];
  flight = [];
  claimed = [];
  begun = [];
  acknowledged = 0 ∷ [];
  faults = 0;
  failed = None;
  readers = 1;
}

abbrev calls : List Call
calls =
    asks 1 (Ask 0 0 18446744073709551615)
    ∷ asks 1 (Poll 1 18446744073709551615)
    ∷ asks 1 (Ask 1 0 18446744073709551614)
    ∷ asks 1 (Poll 2 18446744073709551614)
    ∷ asks 1 (Poll 2 18446744073709551615)
    ∷ []

abbrev wanted : List Reply
wanted =
    Asked 1
    ∷ NoPath 0
    ∷ Asked 2
    ∷ NotYet
    ∷ TimedOut 18446744073709551615
    ∷ []

replies_are : replies 0 start calls ≡ wanted
unfolding absent_hash absent_from levels level_counts presence runs_from
replies_are = refl

ends_so : used_up (state_then 0 start calls) ≡ end
unfolding absent_hash absent_from levels level_counts presence runs_from
ends_so = refl
