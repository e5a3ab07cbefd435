-- What a run over a list of entries does: it takes each that is a step, and ends before the first that is none.
use Rattle.std.specs.Prelude.{◌≡◌, ℕ, ◌+◌, ◌≤◌, Bool, true, false, List, [], ◌∷◌, ◌++◌, length, take, drop, replicate, Some, None, All}
use Rattle.inc_tree.specs.shape.Geometry.{tree_of, data_blocks, hash_blocks}
use Rattle.inc_model.specs.declared.words.file_state.FileState.{FileState}
use Rattle.inc_model.specs.declared.words.reply.Entry.{Entry}
use Rattle.inc_history.specs.declared.world.Round.{Round}
use Rattle.inc_history.specs.declared.world.TheConstants.{FRESH_SIZE, FRESH_READERS}
use Rattle.inc_model.specs.relation.Step.{IsEntry, IsLegal, after_entry, state_after}

pub record RunsTo (at : ℕ) (start : FileState) (entries : List Entry) (done : ℕ) (end : FileState) : Type 0 where
  pub within : done ≤ length entries
  -- the entries up to there are legal, and leave the state
  pub legal : IsLegal at true start (take done entries)
  pub after : end ≡ state_after at start (take done entries)
  -- and the next one, if there is any, is no step
  pub stops : (entry : Entry) (rest : List Entry) → drop done entries ≡ entry ∷ rest → IsEntry (at + done) true end entry → ⊥

-- one entry, taken or not
abbrev pub TakesEntry : ℕ → FileState → Entry → Bool → FileState → Type 0
TakesEntry at old entry true new = IsEntry at true old entry × (new ≡ after_entry at old entry)
TakesEntry at old entry false new = (IsEntry at true old entry → ⊥) × (new ≡ old)

-- ---- rounds

-- a fresh file
unfoldable pub fresh_state : FileState
fresh_state = record {
  id = replicate 16 0;
  n = data_blocks (tree_of FRESH_SIZE);
  m = hash_blocks (tree_of FRESH_SIZE);
  root = Some (replicate 32 0);
  map = [];
  damaged = [];
  compressed = [];
  reads = [];
  next = 1;
  times = [];
  flight = [];
  claimed = [];
  begun = [];
  acknowledged = [];
  faults = 0;
  failed = None;
  readers = FRESH_READERS;
}

abbrev pub all_entries : List Round → List Entry
all_entries [] = []
all_entries (round ∷ rounds) = round.entries ++ all_entries rounds

abbrev pub HaveNoCrash : List Round → Type 0
HaveNoCrash rounds = All (λ round. round.crash ≡ false) rounds
