-- What is known of a file's indices, by rising index, and the executed core over it.
use Rattle.std.specs.Prelude.{◌≡◌, ℕ, List, [], Option, None, Some}
use Rattle.inc_pending.specs.Keyed.{insert}
use Rattle.inc_model.specs.declared.words.file_state.FileState.{FileState}
use Rattle.inc_model.specs.relation.State.{Digests, with_index}

pub record IndexLists : Type 0 where
  -- the numbers of data blocks and of hash blocks
  pub n : ℕ
  pub m : ℕ
  -- the open indices, and those whose gate write began, with their digests
  pub map : Digests
  pub begun : Digests
  pub acknowledged : List ℕ

-- a gate write of an index began
abbrev pub begun_in : ℕ → List ℕ → IndexLists → IndexLists
begun_in index digest lists = record lists { begun = insert index digest lists.begun }

-- and it opened the entry
abbrev pub opened_in : ℕ → List ℕ → IndexLists → IndexLists
opened_in index digest lists = record lists { map = insert index digest lists.map; begun = insert index digest lists.begun }

-- a sync came after it
abbrev pub acknowledged_in : ℕ → IndexLists → IndexLists
acknowledged_in index lists = record lists { acknowledged = with_index index lists.acknowledged }

-- an index has no digest but this one
abbrev pub HasNoOther : List ℕ → Option (List ℕ) → Type 0
HasNoOther digest None = Unit {0}
HasNoOther digest (Some other) = digest ≡ other

-- a file as it is opened: nothing has been asked, claimed or written
abbrev pub opening_over : List ℕ → Option (List ℕ) → IndexLists → List ℕ → List ℕ → ℕ → ℕ → FileState
opening_over id root lists damaged compressed faults readers = record {
  id = id;
  n = lists.n;
  m = lists.m;
  root = root;
  map = lists.map;
  damaged = damaged;
  compressed = compressed;
  reads = [];
  next = 1;
  times = [];
  flight = [];
  claimed = [];
  begun = lists.begun;
  acknowledged = lists.acknowledged;
  faults = faults;
  failed = None;
  readers = readers;
}
