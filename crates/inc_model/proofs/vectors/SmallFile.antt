-- Every reply but a few over a small file: six data blocks and one hash block, block 0 and the hash block there, 2 damaged, 3 compressed.
-- The replies and the end were given by a model of the events that was written apart from this repository.
use Rattle.std.proofs.Common.{◌≡◌, ℕ, true, false, List, [], ◌∷◌, None, refl}
use Rattle.inc_pending.specs.declared.pending_record.PendingRecord.{PendingRecord}
use Rattle.inc_tree.specs.shape.Geometry.{levels, level_counts}
use Rattle.inc_ranges.specs.Runs.{runs_from}
use Rattle.inc_model.specs.declared.words.event.Event.TheVariants.{Ask, Poll, Cancel, Claim, PutData, PutPlace, Settle, Gate, Release, TakePending, SetTimes, Ranges, Count, Leave}
use Rattle.inc_model.specs.declared.words.file_state.FileState.{FileState}
use Rattle.inc_model.specs.declared.words.reply.Reply.{Reply}
use Rattle.inc_model.specs.declared.words.reply.Reply.TheVariants.{OutOfRange, Damaged, Compressed, Asked, Stranger, Handed, TimedOut, NotYet, Cancelled, Claimed, Busy, Present, Put, Placed, Settled, Gated, Released, Taken, TimesSet, BadRange, Filled, Counted, Left}
use Rattle.inc_model.specs.relation.Polling.{absent_hash, absent_from}
use Rattle.inc_model.specs.relation.Table.{presence}
use Rattle.inc_model.proofs.vectors.Calls.{Call, asks, replies, state_then, used_up, window, times}

abbrev digest_0 : List ℕ
digest_0 = 173 ∷ 127 ∷ 172 ∷ 178 ∷ 88 ∷ 111 ∷ 198 ∷ 233 ∷ 102 ∷ 192 ∷ 4 ∷ 215 ∷ 209 ∷ 209 ∷ 107 ∷ 2 ∷ 79 ∷ 88 ∷ 5 ∷ 255 ∷ 124 ∷ 180 ∷ 124 ∷ 122 ∷ 133 ∷ 218 ∷ 189 ∷ 139 ∷ 72 ∷ 137 ∷ 44 ∷ 167 ∷ []

abbrev digest_1 : List ℕ
digest_1 = 48 ∷ 1 ∷ 73 ∷ 160 ∷ 44 ∷ 184 ∷ 125 ∷ 242 ∷ 102 ∷ 16 ∷ 178 ∷ 232 ∷ 116 ∷ 99 ∷ 116 ∷ 17 ∷ 245 ∷ 103 ∷ 187 ∷ 169 ∷ 181 ∷ 134 ∷ 201 ∷ 15 ∷ 71 ∷ 220 ∷ 18 ∷ 111 ∷ 242 ∷ 3 ∷ 192 ∷ 232 ∷ []

abbrev digest_2 : List ℕ
digest_2 = 52 ∷ 49 ∷ 56 ∷ 55 ∷ 33 ∷ 81 ∷ 12 ∷ 241 ∷ 194 ∷ 17 ∷ 222 ∷ 2 ∷ 124 ∷ 249 ∷ 88 ∷ 193 ∷ 131 ∷ 225 ∷ 109 ∷ 181 ∷ 250 ∷ 187 ∷ 107 ∷ 35 ∷ 14 ∷ 178 ∷ 132 ∷ 200 ∷ 94 ∷ 25 ∷ 106 ∷ 169 ∷ []

abbrev digest_3 : List ℕ
digest_3 = 57 ∷ 192 ∷ 128 ∷ 218 ∷ 17 ∷ 70 ∷ 252 ∷ 237 ∷ 72 ∷ 97 ∷ 92 ∷ 85 ∷ 119 ∷ 25 ∷ 106 ∷ 18 ∷ 143 ∷ 113 ∷ 111 ∷ 219 ∷ 15 ∷ 249 ∷ 82 ∷ 166 ∷ 21 ∷ 192 ∷ 112 ∷ 121 ∷ 137 ∷ 87 ∷ 78 ∷ 179 ∷ []

abbrev digest_4 : List ℕ
digest_4 = 128 ∷ 39 ∷ 171 ∷ 188 ∷ 177 ∷ 127 ∷ 245 ∷ 164 ∷ 198 ∷ 191 ∷ 42 ∷ 90 ∷ 135 ∷ 97 ∷ 219 ∷ 210 ∷ 158 ∷ 70 ∷ 83 ∷ 54 ∷ 176 ∷ 191 ∷ 191 ∷ 155 ∷ 205 ∷ 119 ∷ 224 ∷ 216 ∷ 166 ∷ 34 ∷ 242 ∷ 255 ∷ []

abbrev digest_5 : List ℕ
digest_5 = 251 ∷ 115 ∷ 99 ∷ 241 ∷ 240 ∷ 44 ∷ 47 ∷ 36 ∷ 76 ∷ 50 ∷ 170 ∷ 128 ∷ 118 ∷ 239 ∷ 126 ∷ 219 ∷ 194 ∷ 230 ∷ 33 ∷ 19 ∷ 117 ∷ 66 ∷ 131 ∷ 106 ∷ 220 ∷ 30 ∷ 49 ∷ 33 ∷ 67 ∷ 150 ∷ 141 ∷ 117 ∷ []

abbrev the_id : List ℕ
the_id = 0 ∷ 17 ∷ 34 ∷ 51 ∷ 68 ∷ 85 ∷ 102 ∷ 119 ∷ 136 ∷ 153 ∷ 170 ∷ 187 ∷ 204 ∷ 221 ∷ 238 ∷ 255 ∷ []

abbrev pending : ℕ → ℕ → ℕ → ℕ → PendingRecord
pending asked block serial uid = record { id = the_id; asked = asked; block = block; serial = serial; uid = uid }

abbrev start : FileState
start = record {
  id = the_id;
  n = 6;
  m = 1;
  root = None;
  map = (0, digest_0) ∷ (6, digest_1) ∷ [];
  damaged = 2 ∷ [];
  compressed = 3 ∷ [];
  reads = [];
  next = 1;
  times = [];
  flight = [];
  claimed = [];
  begun = [];
  acknowledged = 0 ∷ 6 ∷ [];
  faults = 0;
  failed = None;
  readers = 2;
}

abbrev end : FileState
end = record {
  id = the_id;
  n = 6;
  m = 1;
  root = None;
  map = (0, digest_0) ∷ (1, digest_2) ∷ (4, digest_3) ∷ (6, digest_1) ∷ [];
  damaged = 2 ∷ [];
  compressed = 3 ∷ [];
  reads = [];
  next = 8;
  times = (10, times 50 70 100) ∷ (11, times 0 18446744073709551615 18446744073709551615) ∷ [];
  flight = [];
  claimed = [];
  begun = (1, digest_2) ∷ (4, digest_3) ∷ [];
  acknowledged = 0 ∷ 1 ∷ 4 ∷ 6 ∷ [];
  faults = 0;
  failed = None;
  readers = 0;
}

abbrev calls : List Call
calls =
    asks 1 (Ask 6 10 0)
    ∷ asks 1 (Ask 2 10 0)
    ∷ asks 1 (Ask 3 10 0)
    ∷ asks 1 (Ask 0 10 5)
    ∷ asks 1 (Poll 1 5)
    ∷ asks 2 (Poll 1 5)
    ∷ asks 0 (SetTimes 10 (times 50 70 100))
    ∷ asks 0 (SetTimes 11 (times 0 18446744073709551615 18446744073709551615))
    ∷ asks 1 (Ask 0 10 1000)
    ∷ asks 1 (Poll 2 1049)
    ∷ asks 1 (Poll 2 1050)
    ∷ asks 1 (Ask 1 10 2000)
    ∷ asks 2 (Ask 1 11 2001)
    ∷ asks 3 (Ask 4 12 2002)
    ∷ asks 4 (Ask 5 12 2003)
    ∷ asks 1 (Poll 3 2099)
    ∷ asks 1 (Poll 3 2100)
    ∷ asks 1 (Poll 3 2100)
    ∷ asks 9 (TakePending 0 8)
    ∷ asks 9 (TakePending 4 1)
    ∷ asks 9 (TakePending 6 8)
    ∷ asks 1 (Ask 1 10 3000)
    ∷ asks 7 (Claim (window 7 0) 11)
    ∷ asks 8 (Claim (window 8 3) 3)
    ∷ asks 7 (PutData (window 7 0) 1 digest_2)
    ∷ asks 8 (PutData (window 8 3) 1 digest_2)
    ∷ asks 8 (PutData (window 8 3) 4 digest_3)
    ∷ asks 7 (PutData (window 7 0) 0 digest_4)
    ∷ asks 7 (PutData (window 7 0) 2 digest_2)
    ∷ asks 7 (PutData (window 7 0) 3 digest_2)
    ∷ asks 7 (PutData (window 7 0) 7 digest_2)
    ∷ asks 7 (Gate (window 7 0) 1)
    ∷ asks 7 (PutPlace (window 7 0) 4)
    ∷ asks 7 (PutPlace (window 7 0) 1)
    ∷ asks 7 (PutPlace (window 7 0) 1)
    ∷ asks 8 (PutPlace (window 8 3) 4)
    ∷ asks 8 (Settle (window 8 3))
    ∷ asks 7 (Gate (window 7 0) 1)
    ∷ asks 8 (Gate (window 8 3) 4)
    ∷ asks 7 (Gate (window 7 0) 1)
    ∷ asks 1 (Poll 7 3069)
    ∷ asks 1 (Poll 7 3070)
    ∷ asks 3 (Poll 5 2003)
    ∷ asks 2 (Poll 4 18446744073709551615)
    ∷ asks 7 (Settle (window 7 0))
    ∷ asks 7 (Release (window 7 0))
    ∷ asks 7 (PutData (window 7 0) 5 digest_5)
    ∷ asks 8 (Release (window 8 3))
    ∷ asks 7 (Release (window 7 0))
    ∷ asks 4 (Cancel 6)
    ∷ asks 4 (Cancel 6)
    ∷ asks 1 (Cancel 4)
    ∷ asks 9 (Ranges 0 7 8)
    ∷ asks 9 (Ranges 0 7 1)
    ∷ asks 9 (Ranges 5 4 8)
    ∷ asks 9 (Ranges 0 8 8)
    ∷ asks 9 (Ranges 3 3 0)
    ∷ asks 9 (Ranges 0 2 0)
    ∷ asks 9 (Count)
    ∷ asks 1 (Leave)
    ∷ asks 2 (Leave)
    ∷ asks 3 (Leave)
    ∷ []

abbrev wanted : List Reply
wanted =
    OutOfRange
    ∷ Damaged
    ∷ Compressed
    ∷ Asked 1
    ∷ Handed digest_0
    ∷ Stranger
    ∷ TimesSet
    ∷ TimesSet
    ∷ Asked 2
    ∷ NotYet
    ∷ Handed digest_0
    ∷ Asked 3
    ∷ Asked 4
    ∷ Asked 5
    ∷ Asked 6
    ∷ NotYet
    ∷ TimedOut 2100
    ∷ Stranger
    ∷ Taken (pending 2001 1 4 11 ∷ pending 2002 4 5 12 ∷ pending 2003 5 6 12 ∷ []) 2
    ∷ Taken (pending 2002 4 5 12 ∷ []) 2
    ∷ Taken [] 2
    ∷ Asked 7
    ∷ Claimed
    ∷ Claimed
    ∷ Put 0 digest_2
    ∷ Busy (window 7 0)
    ∷ Put 0 digest_3
    ∷ Present
    ∷ Damaged
    ∷ Compressed
    ∷ OutOfRange
    ∷ Stranger
    ∷ Stranger
    ∷ Placed
    ∷ Stranger
    ∷ Placed
    ∷ Settled
    ∷ Gated 2
    ∷ Gated 1
    ∷ Stranger
    ∷ NotYet
    ∷ Handed digest_2
    ∷ Handed digest_3
    ∷ Handed digest_2
    ∷ Settled
    ∷ Released
    ∷ Put 0 digest_5
    ∷ Released
    ∷ Released
    ∷ Cancelled
    ∷ Stranger
    ∷ Stranger
    ∷ Filled ((0, 2) ∷ (4, 5) ∷ (6, 7) ∷ []) 7 false
    ∷ Filled ((0, 2) ∷ []) 4 true
    ∷ BadRange
    ∷ BadRange
    ∷ Filled [] 3 false
    ∷ Filled [] 0 true
    ∷ Counted 3 1
    ∷ Left 1
    ∷ Left 0
    ∷ Left 0
    ∷ []

replies_are : replies 0 start calls ≡ wanted
unfolding absent_hash absent_from levels level_counts presence runs_from
replies_are = refl

ends_so : used_up (state_then 0 start calls) ≡ end
unfolding absent_hash absent_from levels level_counts presence runs_from
ends_so = refl
