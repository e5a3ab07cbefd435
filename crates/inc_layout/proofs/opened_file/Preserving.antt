-- Bytes that keep what is known of a file, and whose fixed part stands, are a file in which everything is kept.
use Rattle.std.proofs.Common.{ℕ, Bool, List, sym, ap, ◌∙◌, subst, arith}
use Rattle.inc_tree.specs.shape.Geometry.{data_blocks, hash_blocks}
use Rattle.inc_entry.specs.Entry.{Places, area_places}
use Rattle.inc_entry.specs.Keeps.{Keeps}
use Rattle.inc_header.specs.declared.header.Header.{Header}
use Rattle.inc_layout.specs.Backing.{areas_with, digests_in, fixed_in, layout_from, opened_with, sig_root}
use Rattle.inc_layout.specs.fixed.Fixed.{Fixed, IsFixed}
use Rattle.inc_layout.specs.state.Preserves.{Preserves}
use Rattle.inc_layout.specs.fixed.SameFixed.{IsSameFixed, is_fixed_byte}
use Rattle.inc_layout.specs.state.State.{IsStateOf, StateParts, kind_in}
use Rattle.inc_layout.specs.declared.opened.Opened.{Opened}
use Rattle.inc_layout.proofs.opened_file.BackingMeaning.{fixed_backing}
use Rattle.inc_layout.proofs.fixed_part.SameFixedLemmas.{fixed_stays}

-- what the bytes tell that have this fixed part
abbrev opened_of_fixed : List ℕ → Fixed → Opened
opened_of_fixed bytes fixed = opened_with (layout_from bytes fixed) (digests_in bytes (areas_with 0 fixed.places))

state_of_found : (opened : Opened) (bytes : List ℕ) (found : Fixed) (parts : StateParts) → IsSameFixed (fixed_in opened) found → IsStateOf opened parts → IsStateOf (opened_of_fixed bytes found) parts
state_of_found opened bytes found parts same state = record {
  id_is = ap (λ (h : Header). h.id) same.header ∙ state.id_is;
  root_is = ap sig_root same.sig ∙ state.root_is;
  data_is = ap (λ (p : Places). data_blocks p.shape) same.places ∙ state.data_is;
  hash_is = ap (λ (p : Places). hash_blocks p.shape) same.places ∙ state.hash_is;
}

keeps_preserves : (base bytes : List ℕ) (is_fixed : ℕ → Bool) (found : Fixed) (parts : StateParts) → IsFixed bytes found → IsStateOf (opened_of_fixed bytes found) parts
    → Keeps found.places is_fixed base (kind_in parts) bytes → Preserves bytes parts
keeps_preserves base bytes is_fixed found parts stands state keeps = record {
  opened = opened_of_fixed bytes found;
  stands = fixed_backing bytes found stands keeps.none_past;
  state = state;
  each = λ i lt. keeps.each i (omega (arith, state.data_is, state.hash_is));
}

pub kept_preserves : (base bytes : List ℕ) (opened : Opened) (parts : StateParts) → IsFixed base (fixed_in opened) → IsStateOf opened parts
    → Keeps (area_places opened.areas) (is_fixed_byte (fixed_in opened)) base (kind_in parts) bytes → Preserves bytes parts
kept_preserves base bytes opened parts stands state keeps =
    let has = fixed_stays base bytes (fixed_in opened) stands (λ j here. sym (keeps.fixed j here)) keeps.long keeps.short in
    let keeps' = subst (λ (places : Places). Keeps places (is_fixed_byte (fixed_in opened)) base (kind_in parts) bytes) (sym has.same.places) keeps in
    keeps_preserves base bytes (is_fixed_byte (fixed_in opened)) has.found parts has.stands (state_of_found opened bytes has.found parts has.same state) keeps'
