-- What the tests of an entry say in words.
use Rattle.std.proofs.Common.{◌≡◌, ℕ, ◌<◌, Bool, true, false, cond, ◌||◌, eqb, ltb, refl, sym, ◌∙◌, arith, inl, inr}
use Rattle.std.specs.Prelude.{not}
use Rattle.std.proofs.lemmas.Bool.{leb-true, eqb-true, eqb-false, eq-eqb, ne_eqb, le-leb, lt-ltb, le-ltb, and_parts, and_from, or_cases, or_from, cases_lt}
use Rattle.inc_tree.specs.shape.Geometry.{data_blocks, block_len}
use Rattle.inc_entry.specs.declared.classes.Class.TheVariants.{Closed, OpenAt, Compressed, Damaged}
use Rattle.inc_entry.specs.declared.entry.Entry.{Entry}
use Rattle.inc_entry.specs.Spans.{is_clear}
use Rattle.inc_entry.specs.Entry.{Places, areas_of, hash_place, entry_size, fits, has_size, asks, is_open, is_compressed, is_closed, class_of}
use Rattle.inc_entry.specs.Table.{IsOpenEntry, IsCompressedEntry, IsClosedEntry, IsClass}
use Rattle.inc_entry.proofs.SpanLemmas.{clear_means, means_clear, or_false}

differs : true ≡ false → ⊥
differs e = cc

or_right : (a b : Bool) → b ≡ true → a || b ≡ true
or_right true b h = refl
or_right false b h = h

-- ---- the rows

not_true : (b : Bool) → not b ≡ true → b ≡ false
not_true true h = absurd cc
not_true false h = refl

from_false : (b : Bool) → b ≡ false → not b ≡ true
from_false true h = absurd cc
from_false false h = refl

is_positive : (n : ℕ) → not (eqb n 0) ≡ true → 0 < n
is_positive n h = let ne = eqb-false n 0 (not_true _ h) in omega arith

from_positive : (n : ℕ) → 0 < n → not (eqb n 0) ≡ true
from_positive n h = from_false _ (ne_eqb n 0 (λ e. omega arith))

open_row : (places : Places) (len i : ℕ) (e : Entry) → is_open places len i e ≡ true → IsOpenEntry places len i e
unfolding is_open asks has_size fits
open_row places len i e h =
    let parts = and_parts _ _ h in
    let asked = and_parts _ _ parts.0 in
    let plain = and_parts _ _ asked.0 in
    let placed = and_parts _ _ parts.1 in
    record {
      flags = eqb-true _ _ plain.0;
      sized = elim (or_cases _ _ plain.1) [ inl whole ↦ inl (eqb-true _ _ whole) | inr own ↦ inr (eqb-true _ _ own) ];
      offset = is_positive e.offset asked.1;
      inside = leb-true _ _ placed.0;
      of_content = λ lt. clear_means _ _ _ (rw (lt-ltb i (data_blocks places.shape) lt) at placed.1);
      of_tree = λ le. eqb-true _ _ (rw (le-ltb i (data_blocks places.shape) le) at placed.1);
    }

row_open : (places : Places) (len i : ℕ) (e : Entry) → IsOpenEntry places len i e → is_open places len i e ≡ true
unfolding is_open asks has_size fits
row_open places len i e row =
    let sized : (eqb (entry_size e) 4096 || eqb (entry_size e) (block_len places.shape i)) ≡ true =
    elim row.sized [
      | inl whole ↦ rw (eq-eqb _ _ whole) refl
      | inr own ↦ or_right _ _ (eq-eqb _ _ own)
    ] in
    let placed : cond (ltb i (data_blocks places.shape)) (is_clear (areas_of places) e.offset (entry_size e)) (eqb e.offset (hash_place places i)) ≡ true =
    elim (cases_lt i (data_blocks places.shape)) [
      | inl lt ↦ rw (lt-ltb i (data_blocks places.shape) lt) (means_clear _ _ _ (row.of_content lt))
      | inr le ↦ rw (le-ltb i (data_blocks places.shape) le) (eq-eqb _ _ (row.of_tree le))
    ] in
    and_from _ _ (and_from _ _ (and_from _ _ (eq-eqb _ _ row.flags) sized) (from_positive e.offset row.offset)) (and_from _ _ (le-leb _ _ row.inside) placed)

compressed_row : (e : Entry) → is_compressed e ≡ true → IsCompressedEntry e
unfolding is_compressed
compressed_row e h =
    let parts = and_parts _ _ h in
    let placed = and_parts _ _ parts.1 in
    record { compressed = is_positive _ parts.0; offset = is_positive _ placed.0; sized = is_positive _ placed.1 }

row_compressed : (e : Entry) → IsCompressedEntry e → is_compressed e ≡ true
unfolding is_compressed
row_compressed e row = and_from _ _ (from_positive _ row.compressed) (and_from _ _ (from_positive _ row.offset) (from_positive _ row.sized))

closed_row : (places : Places) (i : ℕ) (e : Entry) → is_closed places i e ≡ true → IsClosedEntry places i e
unfolding is_closed has_size
closed_row places i e h =
    let parts = and_parts _ _ h in
    let plain = and_parts _ _ parts.0 in
    let sized = or_false _ _ (not_true _ parts.1) in
    record { flags = eqb-true _ _ plain.0; low = eqb-true _ _ plain.1; whole = eqb-false _ _ sized.0; own = eqb-false _ _ sized.1 }

row_closed : (places : Places) (i : ℕ) (e : Entry) → IsClosedEntry places i e → is_closed places i e ≡ true
unfolding is_closed has_size
row_closed places i e row =
    and_from _ _ (and_from _ _ (eq-eqb _ _ row.flags) (eq-eqb _ _ row.low)) (from_false _ (or_from _ _ (ne_eqb _ _ row.whole) (ne_eqb _ _ row.own)))

-- an entry is in the row of its class
pub row_of : (places : Places) (len i : ℕ) (e : Entry) → IsClass places len i e (class_of places len i e)
unfolding class_of
row_of places len i e =
    elim (is_open places len i e) as (λ b. is_open places len i e ≡ b → IsClass places len i e (cond b (OpenAt e.offset (entry_size e)) (cond (is_compressed e) Compressed (cond (is_closed places i e) Closed Damaged)))) [
      | true ↦ λ opened. (open_row places len i e opened, refl, refl)
      | false ↦ λ opened.
          elim (is_compressed e) as (λ b. is_compressed e ≡ b → IsClass places len i e (cond b Compressed (cond (is_closed places i e) Closed Damaged))) [
            | true ↦ λ packed. compressed_row e packed
            | false ↦ λ packed.
                elim (is_closed places i e) as (λ b. is_closed places i e ≡ b → IsClass places len i e (cond b Closed Damaged)) [
                  | true ↦ λ shut. closed_row places i e shut
                  | false ↦ λ shut. record {
                    not_open = λ row. differs (sym (row_open places len i e row) ∙ opened);
                    not_compressed = λ row. differs (sym (row_compressed e row) ∙ packed);
                    not_closed = λ row. differs (sym (row_closed places i e row) ∙ shut);
                  }
                ] refl
          ] refl
    ] refl
