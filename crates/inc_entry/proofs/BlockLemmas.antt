-- The blocks of open entries lie inside the file.
use Rattle.std.proofs.Common.{◌≡◌, ℕ, ◌+◌, ◌-◌, ◌*◌, ◌≤◌, true, false, cond, List, length, min, inl, inr, subst, arith}
use Rattle.std.specs.Prelude.{nat_lt}
use Rattle.inc_tree.specs.shape.Geometry.{Shape, block_len, data_blocks}
use Rattle.inc_entry.specs.Entry.{Places, entry_at, entry_from}
use Rattle.inc_entry.specs.Stored.{class_at}
use Rattle.inc_entry.specs.Table.{IsClass}
use Rattle.inc_entry.specs.declared.classes.Class.{Class}
use Rattle.inc_entry.specs.declared.classes.Class.TheVariants.{OpenAt}
use Rattle.inc_entry.specs.declared.entry.Entry.{Entry}
use Rattle.inc_entry.proofs.Rows.{row_of}

pub most_len : (shape : Shape) (index : ℕ) → block_len shape index ≤ 4096
most_len shape index = elim (nat_lt index (data_blocks shape)) as (λ b. cond b (min 4096 (shape.size - 4096 * index)) 4096 ≤ 4096) [ true ↦ omega arith | false ↦ omega arith ]

-- an open block is wholly inside the file
pub open_inside : (places : Places) (bytes : List ℕ) (i place size : ℕ) → class_at places bytes i ≡ OpenAt place size → place + block_len places.shape i ≤ length bytes
open_inside places bytes i place size is =
    let e : Entry = entry_from bytes (entry_at places i) in
    let row : IsClass places (length bytes) i e (OpenAt place size) = subst (λ (c : Class). IsClass places (length bytes) i e c) is (row_of places (length bytes) i e) in
    let within = row.0.inside in
    let at = row.1 in
    let most = most_len places.shape i in
    elim row.0.sized [ inl whole ↦ omega arith | inr own ↦ omega arith ]
