-- What a read means: the reasons why there are no bytes in their order, and else the bytes.
use Rattle.std.proofs.Common.{◌≡◌, ℕ, ◌+◌, ◌<◌, Bool, true, false, List, Option, Some, None, refl, sym, ◌∙◌, ap, subst, arith, inl, inr}
use Rattle.std.specs.Prelude.{IfSome, not}
use Rattle.std.proofs.lemmas.Bool.{cases_lt, le-ltb, lt-ltb}
use Rattle.inc_tree.specs.shape.Geometry.{Shape, data_blocks, depth, hash_blocks, path_block}
use Rattle.inc_tree.specs.read_block.Path.{first_break}
use Rattle.inc_tree.proofs.LevelLemmas.{path_within, start_within}
use Rattle.inc_entry.specs.Entry.{area_places}
use Rattle.inc_entry.specs.Stored.{class_at, is_open_class}
use Rattle.inc_entry.specs.declared.classes.Class.{Class}
use Rattle.inc_entry.specs.declared.classes.Class.TheVariants as class
use Rattle.inc_layout.specs.Backing.{IsLaidOut, sig_root}
use Rattle.inc_layout.specs.reading.StaticRead.{IsProvedBy, IsStoredAt, IsWhole, MeansReading, block_place, by_root, class_in, content_from, first_missing, is_missing, is_path_there, judged, path_in, place_in_class, block_reading, static_reading, with_missing, with_place}
use Rattle.inc_layout.specs.declared.opened.Layout.{Layout}
use Rattle.inc_layout.proofs.block_read.BreakLemmas.{break_of, proof_of}
use Rattle.inc_layout.proofs.ListedLemmas.{first_means, length-listed, none_below}

-- the number of a hash block on a path is one of the file's
number_within : (shape : Shape) (index level : ℕ) → index < data_blocks shape → level < depth shape → path_block shape index level < hash_blocks shape
number_within shape index level here there = omega (arith, path_within shape index level here there, start_within shape level there)

-- what the entry of a hash block on the path says, and what was found of it
missing_there : (bytes : List ℕ) (layout : Layout) (index level : ℕ) → IsLaidOut bytes layout → index < data_blocks layout.areas.geometry → level < depth layout.areas.geometry
    → is_missing layout.areas layout.classes index level ≡ not (is_path_there bytes layout index level)
missing_there bytes layout index level is here there =
    let within = number_within layout.areas.geometry index level here there in
    ap (λ (c : Class). not (is_open_class c)) (is.each_class (data_blocks layout.areas.geometry + path_block layout.areas.geometry index level) (omega arith))

not_false : (b : Bool) → not b ≡ false → b ≡ true
not_false true e = refl
not_false false e = absurd cc

-- ---- the block and its path are there

proved_means : (bytes : List ℕ) (layout : Layout) (index : ℕ) (content root : List ℕ) → IsWhole bytes layout index content → sig_root layout.sig ≡ Some root
    → (failing : Option ℕ) → first_break root index content (path_in bytes layout.areas index) ≡ failing
    → MeansReading bytes layout index (judged root index content (path_in bytes layout.areas index) failing)
proved_means bytes layout index content root whole is None e = record {
  whole = whole;
  proved = subst (λ (r : Option (List ℕ)). IsProvedBy r bytes layout index content) (sym is)
      (proof_of root layout.areas.geometry index content (path_in bytes layout.areas index) (length-listed _ (depth layout.areas.geometry)) e);
}
proved_means bytes layout index content root whole is (Some level) e = record {
  root = root;
  content = content;
  root_is = is;
  whole = whole;
  names = record { fails = break_of root index content (path_in bytes layout.areas index) level e; wanted_is = refl; got_is = refl };
}

root_means : (bytes : List ℕ) (layout : Layout) (index : ℕ) (content : List ℕ) → IsWhole bytes layout index content → (root : Option (List ℕ)) → sig_root layout.sig ≡ root
    → MeansReading bytes layout index (by_root root index content (path_in bytes layout.areas index))
root_means bytes layout index content whole None is = record {
  whole = whole;
  proved = subst (λ (r : Option (List ℕ)). IsProvedBy r bytes layout index content) (sym is) tt;
}
root_means bytes layout index content whole (Some root) is = proved_means bytes layout index content root whole is _ refl

missing_means : (bytes : List ℕ) (layout : Layout) (index place : ℕ) → IsLaidOut bytes layout → (stored : IsStoredAt bytes layout index place)
    → (missing : Option ℕ) → first_missing layout.areas layout.classes index ≡ missing
    → MeansReading bytes layout index (with_missing bytes (sig_root layout.sig) layout.areas index place missing)
missing_means bytes layout index place is stored None e =
    let whole : IsWhole bytes layout index (content_from bytes layout.areas index place) = record {
      place = place;
      stored = stored;
      content_is = refl;
      path_there = λ level there. not_false _ (sym (missing_there bytes layout index level is stored.open_there.here there)
          ∙ none_below (depth layout.areas.geometry) (is_missing layout.areas layout.classes index) e level there);
    } in
    root_means bytes layout index (content_from bytes layout.areas index place) whole (sig_root layout.sig) refl
missing_means bytes layout index place is stored (Some level) e =
    let lowest = first_means (depth layout.areas.geometry) (is_missing layout.areas layout.classes index) level e in
    record {
      place = place;
      level = level;
      stored = stored;
      lowest = record {
        within = lowest.within;
        here = sym (missing_there bytes layout index level is stored.open_there.here lowest.within) ∙ lowest.here;
        first = λ lower lt. sym (missing_there bytes layout index lower is stored.open_there.here (let w = lowest.within in omega arith)) ∙ lowest.first lower lt;
      };
      hash_is = refl;
    }

-- ---- by the class

class_means : (bytes : List ℕ) (layout : Layout) (index : ℕ) → IsLaidOut bytes layout → index < data_blocks layout.areas.geometry
    → (found : Class) → class_at (area_places layout.areas) bytes index ≡ found
    → MeansReading bytes layout index (with_place bytes (sig_root layout.sig) layout.areas layout.classes index (place_in_class found))
class_means bytes layout index is here (class.OpenAt place size) e =
    missing_means bytes layout index place is (record { size = size; open_there = record { here = here; classed = e } }) _ refl
class_means bytes layout index is here class.Damaged e = record { here = here; classed = e }
class_means bytes layout index is here class.Compressed e = record { here = here; classed = e }
class_means bytes layout index is here class.Closed e = record { here = here; classed = e }

place_means : (bytes : List ℕ) (layout : Layout) (index : ℕ) → IsLaidOut bytes layout
    → MeansReading bytes layout index (with_place bytes (sig_root layout.sig) layout.areas layout.classes index (block_place layout.areas layout.classes index))
unfolding block_place
place_means bytes layout index is =
    elim (cases_lt index (data_blocks layout.areas.geometry)) [
      | inl lt ↦ rw (lt-ltb index (data_blocks layout.areas.geometry) lt)
          (let same : class_at (area_places layout.areas) bytes index ≡ class_in layout.classes index = sym (is.each_class index (omega arith)) in class_means bytes layout index is lt (class_in layout.classes index) same)
      | inr le ↦ rw (le-ltb index (data_blocks layout.areas.geometry) le) le
    ]

pub reading_means : (bytes : List ℕ) (layout : Layout) (index : ℕ) → IsLaidOut bytes layout → MeansReading bytes layout index (static_reading bytes layout index)
unfolding block_reading
reading_means bytes layout index is = place_means bytes layout index is

pub told_means : (told : Option (List ℕ)) (layout : Layout) (index : ℕ) → IfSome told (λ bytes. IsLaidOut bytes layout) → IfSome told (λ bytes. MeansReading bytes layout index (static_reading bytes layout index))
told_means None layout index is = tt
told_means (Some bytes) layout index is = reading_means bytes layout index is
