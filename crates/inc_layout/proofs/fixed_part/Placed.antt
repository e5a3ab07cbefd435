-- Where everything lies in a file whose areas passed their tests.
use Rattle.std.proofs.Common.{◌≡◌, ℕ, ◌+◌, ◌*◌, ◌<◌, ◌^◌, cond, Option, Some, None, Ok, refl, sym, ◌∙◌, inl, inr, arith}
use Rattle.std.specs.Prelude.{is_some}
use Rattle.std.proofs.lemmas.Bool.{cases_lt}
use Rattle.inc_bytes.specs.Tests.{first_failing, judge}
use Rattle.inc_bytes.proofs.Judging.{judged_ok}
use Rattle.inc_tree.specs.shape.Geometry.{Shape, flat_of, hash_blocks, tree_of}
use Rattle.inc_header.specs.declared.header.HeaderKind.{HeaderKind}
use Rattle.inc_header.specs.declared.header.HeaderKind.TheVariants as kind
use Rattle.inc_md.specs.Inside.{AreRecordsInside}
use Rattle.inc_md.specs.declared.records.SigRecord.{SigRecord}
use Rattle.inc_signature.specs.declared.signature.SigInfo.{SigInfo}
use Rattle.inc_entry.specs.Entry.{area_places, block_bytes, entries, entry_bytes}
use Rattle.inc_entry.specs.Spans.{IsInside}
use Rattle.inc_layout.specs.fixed.Fixed.{area_tests, shape_for}
use Rattle.inc_layout.specs.opening.Opening.{IsPlainKind}
use Rattle.inc_layout.specs.fixed.Told.{IsPlaced}
use Rattle.inc_layout.specs.declared.fixed.part.FixedPart.{FixedPart}
use Rattle.inc_layout.proofs.fixed_part.FixedMeaning.{areas_from}

ends : (len at n : ℕ) → IsInside len (record { at = at; len = n }) → len < 2 ^ 64 → at < 2 ^ 64 → at + n < 2 ^ 64
ends len at n within small at_small =
    elim (cases_lt 0 n) [
      | inl lt ↦ let le = within lt in omega arith
      | inr le ↦ omega arith
    ]

plain_kind : (k : HeaderKind) (first : ℕ) → k ≡ kind.Plain first → IsPlainKind k
plain_kind (kind.Plain at) first e = tt
plain_kind (kind.Mapped offset) first e = absurd cc

-- the shape that was taken for a signed file or an unsigned one
pub record_shape : (signature : Option SigRecord) (tree flat : Shape) (size : ℕ) → tree ≡ tree_of size → flat ≡ flat_of size → cond (is_some signature) tree flat ≡ shape_for signature size
record_shape None tree flat size t f = f
record_shape (Some signature) tree flat size t f = t

pub sig_shape : (signature : Option SigRecord) (sig : Option SigInfo) (size : ℕ) → is_some signature ≡ is_some sig → shape_for signature size ≡ shape_for sig size
sig_shape None None size e = refl
sig_shape None (Some sig) size e = absurd cc
sig_shape (Some signature) None size e = absurd cc
sig_shape (Some signature) (Some sig) size e = refl

pub placed_from : (part : FixedPart) (count tree_size first : ℕ) → part.header.kind ≡ kind.Plain first → part.areas.geometry ≡ shape_for part.records.signature part.header.size
    → is_some part.records.signature ≡ is_some part.sig → AreRecordsInside part.areas.len part.records → part.areas.len < 2 ^ 64 → part.areas.map_at < 2 ^ 64 → part.areas.hash_at < 2 ^ 64
    → Ok tt ≡ judge {Value = Unit {0}} (first_failing (area_tests part.areas.len (area_places part.areas) count tree_size)) tt → IsPlaced part
placed_from part count tree_size first plain shape signed inside len map_at hash_at e =
    let areas = areas_from part.areas.len (area_places part.areas) count tree_size (judged_ok {Value = Unit {0}} _ tt tt (sym e)).0 in
    record {
      plain = plain_kind part.header.kind first plain;
      shape = shape ∙ sig_shape part.records.signature part.sig part.header.size signed;
      signed = signed;
      records_inside = inside;
      map_inside = areas.map_inside;
      map_end = ends part.areas.len part.areas.map_at (entry_bytes * entries (area_places part.areas)) areas.map_inside len map_at;
      tree_inside = areas.tree_inside;
      tree_end = ends part.areas.len part.areas.hash_at (block_bytes * hash_blocks part.areas.geometry) areas.tree_inside len hash_at;
      all_apart = areas.all_apart;
    }
