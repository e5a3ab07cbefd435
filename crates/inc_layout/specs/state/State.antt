-- The parts of a file's state that a crash has to do with, and what they say of each index.
use Rattle.std.specs.Prelude.{◌≡◌, ℕ, ◌==◌, Bool, true, false, if◌then◌else◌, List, [], ◌∷◌, Option, Some, None}
use Rattle.std.specs.List.{list_any}
use Rattle.inc_tree.specs.shape.Geometry.{data_blocks, hash_blocks}
use Rattle.inc_entry.specs.Keeps.{Kind, Acknowledged, Begun, KeptDamaged, KeptCompressed, Shut}
use Rattle.inc_layout.specs.Backing.{sig_root}
use Rattle.inc_layout.specs.declared.opened.Opened.{Opened}

-- The rows are indices with the digests of their blocks; an index that is acknowledged may still stand among those whose fill has begun.
pub record StateParts : Type 0 where
  pub id : List ℕ
  pub root : Option (List ℕ)
  pub data_count : ℕ
  pub hash_count : ℕ
  pub damaged : List ℕ
  pub compressed : List ℕ
  pub acknowledged : List (ℕ × List ℕ)
  pub begun : List (ℕ × List ℕ)

-- an opened file has this id, this root or none, and so many blocks
pub record IsStateOf (opened : Opened) (parts : StateParts) : Type 0 where
  pub id_is : opened.header.id ≡ parts.id
  pub root_is : sig_root opened.sig ≡ parts.root
  pub data_is : data_blocks opened.areas.geometry ≡ parts.data_count
  pub hash_is : hash_blocks opened.areas.geometry ≡ parts.hash_count

-- ---- the kind of an index

-- the digest in an index's row
abbrev pub row_digest : List (ℕ × List ℕ) → ℕ → Option (List ℕ)
row_digest [] i = None
row_digest (row ∷ rows) i = if row.0 == i then Some row.1 else row_digest rows i

abbrev pub has_index : List ℕ → ℕ → Bool
has_index indices i = list_any (λ index. index == i) indices

abbrev pub unfilled_kind : Bool → Bool → Kind
unfilled_kind true compressed = KeptDamaged
unfilled_kind false true = KeptCompressed
unfilled_kind false false = Shut

abbrev pub begun_kind : Option (List ℕ) → Kind → Kind
begun_kind (Some digest) other = Begun digest
begun_kind None other = other

-- an index that is acknowledged stays in the list of those begun
abbrev pub kind_with : Option (List ℕ) → Option (List ℕ) → Kind → Kind
kind_with (Some digest) begun other = Acknowledged digest
kind_with None begun other = begun_kind begun other

unfoldable pub kind_of : List ℕ → List ℕ → List (ℕ × List ℕ) → List (ℕ × List ℕ) → ℕ → Kind
kind_of damaged compressed acknowledged begun i =
    kind_with (row_digest acknowledged i) (row_digest begun i) (unfilled_kind (has_index damaged i) (has_index compressed i))

abbrev pub kind_in : StateParts → ℕ → Kind
kind_in parts = kind_of parts.damaged parts.compressed parts.acknowledged parts.begun
