-- A file of three blocks whose hash block is there, before a call to its device fails.
use Rattle.std.proofs.Common.{ℕ, List, [], ◌∷◌, None}
use Rattle.inc_model.specs.declared.words.file_state.FileState.{FileState}

abbrev pub digest_0 : List ℕ
digest_0 = 128 ∷ 39 ∷ 171 ∷ 188 ∷ 177 ∷ 127 ∷ 245 ∷ 164 ∷ 198 ∷ 191 ∷ 42 ∷ 90 ∷ 135 ∷ 97 ∷ 219 ∷ 210 ∷ 158 ∷ 70 ∷ 83 ∷ 54 ∷ 176 ∷ 191 ∷ 191 ∷ 155 ∷ 205 ∷ 119 ∷ 224 ∷ 216 ∷ 166 ∷ 34 ∷ 242 ∷ 255 ∷ []

abbrev pub digest_1 : List ℕ
digest_1 = 52 ∷ 49 ∷ 56 ∷ 55 ∷ 33 ∷ 81 ∷ 12 ∷ 241 ∷ 194 ∷ 17 ∷ 222 ∷ 2 ∷ 124 ∷ 249 ∷ 88 ∷ 193 ∷ 131 ∷ 225 ∷ 109 ∷ 181 ∷ 250 ∷ 187 ∷ 107 ∷ 35 ∷ 14 ∷ 178 ∷ 132 ∷ 200 ∷ 94 ∷ 25 ∷ 106 ∷ 169 ∷ []

abbrev pub digest_2 : List ℕ
digest_2 = 48 ∷ 214 ∷ 188 ∷ 22 ∷ 78 ∷ 165 ∷ 65 ∷ 136 ∷ 170 ∷ 157 ∷ 240 ∷ 193 ∷ 79 ∷ 32 ∷ 196 ∷ 251 ∷ 200 ∷ 161 ∷ 85 ∷ 197 ∷ 100 ∷ 75 ∷ 204 ∷ 158 ∷ 249 ∷ 235 ∷ 5 ∷ 144 ∷ 28 ∷ 176 ∷ 125 ∷ 112 ∷ []

abbrev pub digest_3 : List ℕ
digest_3 = 69 ∷ 57 ∷ 204 ∷ 31 ∷ 188 ∷ 60 ∷ 34 ∷ 187 ∷ 19 ∷ 22 ∷ 114 ∷ 198 ∷ 47 ∷ 32 ∷ 255 ∷ 135 ∷ 243 ∷ 245 ∷ 135 ∷ 186 ∷ 45 ∷ 61 ∷ 76 ∷ 91 ∷ 22 ∷ 28 ∷ 39 ∷ 28 ∷ 152 ∷ 192 ∷ 123 ∷ 56 ∷ []

abbrev pub the_id : List ℕ
the_id = 0 ∷ 0 ∷ 0 ∷ 0 ∷ 0 ∷ 0 ∷ 0 ∷ 0 ∷ 0 ∷ 0 ∷ 0 ∷ 0 ∷ 0 ∷ 0 ∷ 0 ∷ 0 ∷ []

abbrev pub start : FileState
start = record {
  id = the_id;
  n = 3;
  m = 1;
  root = None;
  map = (3, digest_0) ∷ [];
  damaged = [];
  compressed = [];
  reads = [];
  next = 1;
  times = [];
  flight = [];
  claimed = [];
  begun = [];
  acknowledged = 3 ∷ [];
  faults = 0;
  failed = None;
  readers = 1;
}
