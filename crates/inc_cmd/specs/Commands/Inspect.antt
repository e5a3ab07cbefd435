-- `inspect NAME`: what a file's layout says of itself, in seven lines; of a mapped name what its header says, in one.
use Rattle.std.specs.Prelude.{ℕ, ◌++◌, List, [], ◌∷◌, take, drop, count_by, Option, Some, None, Result, Ok, Err, codes}
use Rattle.std.specs.Fmt.{decimal}
use Rattle.hex.specs.Hex.{encode_lower}
use Rattle.inc_tree.specs.shape.Geometry.{Shape, data_blocks, hash_blocks}
use Rattle.inc_md.specs.declared.records.SigRecord.{SigRecord}
use Rattle.inc_signature.specs.declared.signature.SigInfo.{SigInfo}
use Rattle.inc_entry.specs.Stored.{is_compressed_class, is_damaged_class, is_open_class}
use Rattle.inc_entry.specs.declared.classes.Class.{Class}
use Rattle.inc_layout.specs.Backing.{laid_of}
use Rattle.inc_mapped.specs.Mapping.{Mapping}
use Rattle.inc_layout.specs.fixed.Fixed.{map_base, map_count}
use Rattle.inc_layout.specs.declared.fault.LayoutFault.{LayoutFault}
use Rattle.inc_layout.specs.declared.opened.Layout.{Layout}
use Rattle.inc_words.specs.Endings.{Ending, done, refused_by}
use Rattle.inc_words.specs.Refusals.{layout_word}
use Rattle.inc_words.specs.Texts.{part_of}

-- `plain size S id ID`
unfoldable pub size_line : ℕ → List ℕ → List ℕ
size_line size id = codes "plain size " ++ decimal size ++ codes " id " ++ encode_lower id ++ 10 ∷ []

-- `map at B count C`; where there is no map, both are 0
unfoldable pub map_line : ℕ → ℕ → List ℕ
map_line base count = codes "map at " ++ decimal base ++ codes " count " ++ decimal count ++ 10 ∷ []

-- `O size Z`
unfoldable pub place_and_size : ℕ → ℕ → List ℕ
place_and_size at size = decimal at ++ codes " size " ++ decimal size

-- `signature at O size Z`
unfoldable pub signature_line : ℕ → ℕ → List ℕ
signature_line at size = codes "signature at " ++ place_and_size at size ++ 10 ∷ []

unfoldable pub no_signature_line : List ℕ
no_signature_line = codes "signature none" ++ 10 ∷ []

-- `root R`
unfoldable pub root_line : List ℕ → List ℕ
root_line root = codes "root " ++ encode_lower root ++ 10 ∷ []

unfoldable pub no_root_line : List ℕ
no_root_line = codes "root none" ++ 10 ∷ []

-- `tree at O blocks M`, with the record's own place; an unsigned file's tree is at 0
unfoldable pub tree_line : ℕ → ℕ → List ℕ
tree_line at blocks = codes "tree at " ++ decimal at ++ codes " blocks " ++ decimal blocks ++ 10 ∷ []

-- `filled data D of N hash E of M`
unfoldable pub filled_line : ℕ → ℕ → ℕ → ℕ → List ℕ
filled_line filled_data data_count filled_hash hash_count = codes "filled data " ++ part_of filled_data data_count ++ codes " hash " ++ part_of filled_hash hash_count ++ 10 ∷ []

-- `damaged X compressed Y`
unfoldable pub damaged_line : ℕ → ℕ → List ℕ
damaged_line damaged compressed = codes "damaged " ++ decimal damaged ++ codes " compressed " ++ decimal compressed ++ 10 ∷ []

-- `S offset O`
unfoldable pub size_and_offset : Mapping → List ℕ
size_and_offset mapping = decimal mapping.size ++ codes " offset " ++ decimal mapping.offset

-- `mapped size S offset O original ID`
unfoldable pub mapping_line : Mapping → List ℕ → List ℕ
mapping_line mapping original = codes "mapped size " ++ size_and_offset mapping ++ codes " original " ++ encode_lower original ++ 10 ∷ []

abbrev pub blob_line : Option SigRecord → List ℕ
blob_line None = no_signature_line
blob_line (Some signature) = signature_line signature.sig_at signature.sig_size

abbrev pub sig_line : Option SigInfo → List ℕ
sig_line None = no_root_line
sig_line (Some sig) = root_line sig.root

-- the data blocks' classes stand first
abbrev pub classes_line : Shape → List Class → List ℕ
classes_line shape classes =
    filled_line (count_by is_open_class (take (data_blocks shape) classes)) (data_blocks shape) (count_by is_open_class (drop (data_blocks shape) classes)) (hash_blocks shape)
    ++ damaged_line (count_by is_damaged_class classes) (count_by is_compressed_class classes)

abbrev pub inspect_text : Layout → List ℕ
inspect_text layout =
    size_line layout.header.size layout.header.id
    ++ map_line (map_base layout.records.map) (map_count layout.records.map)
    ++ blob_line layout.records.signature
    ++ sig_line layout.sig
    ++ tree_line layout.areas.hash_at (hash_blocks layout.areas.geometry)
    ++ classes_line layout.areas.geometry layout.classes

abbrev pub inspect_laid_as : List ℕ → Result Layout LayoutFault → Ending
inspect_laid_as name (Ok layout) = done (inspect_text layout)
inspect_laid_as name (Err fault) = refused_by name (layout_word fault)

abbrev pub inspect_ending : List ℕ → List ℕ → Ending
inspect_ending name bytes = inspect_laid_as name (laid_of bytes)
