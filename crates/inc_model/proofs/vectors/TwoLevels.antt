-- Two levels: 300 data blocks and 4 hash blocks; blocks 299 and 128 are there, hash block 2 (index 302) is not.
-- The replies and the end were given by a model of the events that was written apart from this repository.
use Rattle.std.proofs.Common.{◌≡◌, ℕ, List, [], ◌∷◌, None, refl}
use Rattle.inc_tree.specs.shape.Geometry.{levels, level_counts}
use Rattle.inc_ranges.specs.Runs.{runs_from}
use Rattle.inc_model.specs.declared.words.event.Event.TheVariants.{Ask, Poll, Claim, PutData, PutPlace, Settle, Gate, Release}
use Rattle.inc_model.specs.declared.words.file_state.FileState.{FileState}
use Rattle.inc_model.specs.declared.words.reply.Reply.{Reply}
use Rattle.inc_model.specs.declared.words.reply.Reply.TheVariants.{Asked, NoPath, Handed, TimedOut, Claimed, Put, Placed, Settled, Gated, Released}
use Rattle.inc_model.specs.relation.Polling.{absent_hash, absent_from}
use Rattle.inc_model.specs.relation.Table.{presence}
use Rattle.inc_model.proofs.vectors.Calls.{Call, asks, replies, state_then, used_up, window}

abbrev digest_0 : List ℕ
digest_0 = 120 ∷ 170 ∷ 203 ∷ 195 ∷ 251 ∷ 52 ∷ 239 ∷ 184 ∷ 255 ∷ 165 ∷ 70 ∷ 123 ∷ 147 ∷ 18 ∷ 145 ∷ 236 ∷ 43 ∷ 223 ∷ 94 ∷ 25 ∷ 86 ∷ 79 ∷ 196 ∷ 95 ∷ 233 ∷ 123 ∷ 90 ∷ 255 ∷ 188 ∷ 137 ∷ 61 ∷ 198 ∷ []

abbrev digest_1 : List ℕ
digest_1 = 29 ∷ 5 ∷ 161 ∷ 113 ∷ 23 ∷ 82 ∷ 213 ∷ 140 ∷ 215 ∷ 177 ∷ 160 ∷ 252 ∷ 59 ∷ 134 ∷ 85 ∷ 16 ∷ 24 ∷ 101 ∷ 51 ∷ 173 ∷ 198 ∷ 183 ∷ 59 ∷ 132 ∷ 251 ∷ 167 ∷ 98 ∷ 136 ∷ 74 ∷ 207 ∷ 165 ∷ 45 ∷ []

abbrev digest_2 : List ℕ
digest_2 = 79 ∷ 221 ∷ 96 ∷ 8 ∷ 146 ∷ 247 ∷ 214 ∷ 22 ∷ 8 ∷ 56 ∷ 58 ∷ 111 ∷ 148 ∷ 182 ∷ 182 ∷ 138 ∷ 134 ∷ 48 ∷ 182 ∷ 92 ∷ 9 ∷ 118 ∷ 222 ∷ 163 ∷ 245 ∷ 228 ∷ 16 ∷ 212 ∷ 196 ∷ 255 ∷ 11 ∷ 189 ∷ []

abbrev digest_3 : List ℕ
digest_3 = 196 ∷ 228 ∷ 65 ∷ 107 ∷ 0 ∷ 179 ∷ 100 ∷ 132 ∷ 102 ∷ 242 ∷ 114 ∷ 231 ∷ 129 ∷ 210 ∷ 187 ∷ 197 ∷ 215 ∷ 178 ∷ 239 ∷ 25 ∷ 165 ∷ 94 ∷ 195 ∷ 165 ∷ 101 ∷ 65 ∷ 127 ∷ 89 ∷ 155 ∷ 161 ∷ 174 ∷ 121 ∷ []

abbrev digest_4 : List ℕ
digest_4 = 171 ∷ 11 ∷ 239 ∷ 197 ∷ 246 ∷ 150 ∷ 9 ∷ 104 ∷ 232 ∷ 2 ∷ 67 ∷ 139 ∷ 237 ∷ 146 ∷ 73 ∷ 162 ∷ 49 ∷ 28 ∷ 207 ∷ 69 ∷ 167 ∷ 100 ∷ 138 ∷ 180 ∷ 169 ∷ 36 ∷ 197 ∷ 106 ∷ 49 ∷ 118 ∷ 33 ∷ 236 ∷ []

abbrev the_id : List ℕ
the_id = 0 ∷ 0 ∷ 0 ∷ 0 ∷ 0 ∷ 0 ∷ 0 ∷ 0 ∷ 0 ∷ 0 ∷ 0 ∷ 0 ∷ 0 ∷ 0 ∷ 0 ∷ 0 ∷ []

abbrev start : FileState
start = record {
  id = the_id;
  n = 300;
  m = 4;
  root = None;
  map = [];
  damaged = [];
  compressed = [];
  reads = [];
  next = 1;
  times = [];
  flight = [];
  claimed = [];
  begun = [];
  acknowledged = [];
  faults = 0;
  failed = None;
  readers = 1;
}

abbrev end : FileState
end = record {
  id = the_id;
  n = 300;
  m = 4;
  root = None;
  map = (128, digest_0) ∷ (299, digest_1) ∷ (300, digest_2) ∷ (301, digest_3) ∷ (303, digest_4) ∷ [];
  damaged = [];
  compressed = [];
  reads = [];
  next = 4;
  times = [];
  flight = [];
  claimed = [];
  begun = (128, digest_0) ∷ (299, digest_1) ∷ (300, digest_2) ∷ (301, digest_3) ∷ (303, digest_4) ∷ [];
  acknowledged = 128 ∷ 299 ∷ 300 ∷ 301 ∷ 303 ∷ [];
  faults = 0;
  failed = None;
  readers = 1;
}

abbrev calls : List Call
calls =
    asks 5 (Claim (window 5 300) 6)
    ∷ asks 5 (PutData (window 5 300) 300 digest_2)
    ∷ asks 5 (PutPlace (window 5 300) 300)
    ∷ asks 5 (Settle (window 5 300))
    ∷ asks 5 (Gate (window 5 300) 300)
    ∷ asks 5 (Settle (window 5 300))
    ∷ asks 5 (Release (window 5 300))
    ∷ asks 5 (Claim (window 5 301) 6)
    ∷ asks 5 (PutData (window 5 301) 301 digest_3)
    ∷ asks 5 (PutPlace (window 5 301) 301)
    ∷ asks 5 (Settle (window 5 301))
    ∷ asks 5 (Gate (window 5 301) 301)
    ∷ asks 5 (Settle (window 5 301))
    ∷ asks 5 (Release (window 5 301))
    ∷ asks 5 (Claim (window 5 303) 6)
    ∷ asks 5 (PutData (window 5 303) 303 digest_4)
    ∷ asks 5 (PutPlace (window 5 303) 303)
    ∷ asks 5 (Settle (window 5 303))
    ∷ asks 5 (Gate (window 5 303) 303)
    ∷ asks 5 (Settle (window 5 303))
    ∷ asks 5 (Release (window 5 303))
    ∷ asks 5 (Claim (window 5 299) 6)
    ∷ asks 5 (PutData (window 5 299) 299 digest_1)
    ∷ asks 5 (PutPlace (window 5 299) 299)
    ∷ asks 5 (Settle (window 5 299))
    ∷ asks 5 (Gate (window 5 299) 299)
    ∷ asks 5 (Settle (window 5 299))
    ∷ asks 5 (Release (window 5 299))
    ∷ asks 5 (Claim (window 5 128) 6)
    ∷ asks 5 (PutData (window 5 128) 128 digest_0)
    ∷ asks 5 (PutPlace (window 5 128) 128)
    ∷ asks 5 (Settle (window 5 128))
    ∷ asks 5 (Gate (window 5 128) 128)
    ∷ asks 5 (Settle (window 5 128))
    ∷ asks 5 (Release (window 5 128))
    ∷ asks 1 (Ask 299 0 0)
    ∷ asks 1 (Poll 1 0)
    ∷ asks 1 (Ask 128 0 0)
    ∷ asks 1 (Poll 2 0)
    ∷ asks 1 (Ask 0 0 0)
    ∷ asks 1 (Poll 3 1000000)
    ∷ []

abbrev wanted : List Reply
wanted =
    Claimed
    ∷ Put 0 digest_2
    ∷ Placed
    ∷ Settled
    ∷ Gated 0
    ∷ Settled
    ∷ Released
    ∷ Claimed
    ∷ Put 0 digest_3
    ∷ Placed
    ∷ Settled
    ∷ Gated 0
    ∷ Settled
    ∷ Released
    ∷ Claimed
    ∷ Put 0 digest_4
    ∷ Placed
    ∷ Settled
    ∷ Gated 0
    ∷ Settled
    ∷ Released
    ∷ Claimed
    ∷ Put 0 digest_1
    ∷ Placed
    ∷ Settled
    ∷ Gated 0
    ∷ Settled
    ∷ Released
    ∷ Claimed
    ∷ Put 0 digest_0
    ∷ Placed
    ∷ Settled
    ∷ Gated 0
    ∷ Settled
    ∷ Released
    ∷ Asked 1
    ∷ Handed digest_1
    ∷ Asked 2
    ∷ NoPath 2
    ∷ Asked 3
    ∷ TimedOut 1000000
    ∷ []

replies_are : replies 0 start calls ≡ wanted
unfolding absent_hash absent_from levels level_counts presence runs_from
replies_are = refl

ends_so : used_up (state_then 0 start calls) ≡ end
unfolding absent_hash absent_from levels level_counts presence runs_from
ends_so = refl
