-- Bytes that pass the tests are the spelling of the header that their fields give, and a spelling passes the tests.
use Rattle.std.proofs.Common.{◌≡◌, ℕ, ◌^◌, ◌<◌, ◌≤◌, Bool, true, false, cond, eqb, ◌||◌, List, [], ◌++◌, length, take, drop, Option, Some, None, Result, Ok, Err, refl, sym, ap, subst, ◌∙◌, arith, inl, inr}
use Rattle.std.specs.Prelude.{IfOk, IfErr}
use Rattle.std.proofs.lemmas.Bool.{ltb-true, leb-true, eqb-true, eq-eqb, le-leb, lt-ltb, and_parts, and_from, or_cases}
use Rattle.std.proofs.lemmas.List.{length-take, length-drop, drop-take}
use Rattle.inc_bytes.specs.Fields.{AreBytes, le_bytes, field}
use Rattle.inc_bytes.specs.Tests.{first_failing, judge}
use Rattle.inc_bytes.proofs.Numbers.{AreBytes-drop, AreBytes-take, le_number-le_bytes, field-lt, take-then, field_next, field-take}
use Rattle.inc_bytes.proofs.Judging.{passed, judged_ok, judged_err}
use Rattle.inc_header.specs.declared.header.Header.{Header}
use Rattle.inc_header.specs.declared.header.HeaderKind.{HeaderKind}
use Rattle.inc_header.specs.declared.header.HeaderKind.TheVariants.{Plain, Mapped}
use Rattle.inc_header.specs.declared.header.HeaderFault.{HeaderFault}
use Rattle.inc_header.specs.Header.{flags_of, place_of, header_bytes, MayMap, IsHeader, is_mapping, header_tests, header_in, header_of}

-- what the tests say of the fields
record Holds (bytes : List ℕ) : Type 0 where
  long : 56 ≤ length bytes
  magic : field 8 0 bytes ≡ 0x5346434e49
  version : field 8 8 bytes ≡ 1
  header_size : field 2 16 bytes ≡ 56
  block_size : field 2 18 bytes ≡ 4096
  flags : ((eqb (field 4 20 bytes) 0) || (eqb (field 4 20 bytes) 2)) ≡ true
  mapping : cond (eqb (field 4 20 bytes) 2) (is_mapping (field 8 24 bytes) (field 8 32 bytes)) true ≡ true

holds : (bytes : List ℕ) → first_failing (header_tests bytes) ≡ None → Holds bytes
unfolding header_tests
holds bytes none =
    let t1 = passed _ _ _ none in
    let t2 = passed _ _ _ t1.1 in
    let t3 = passed _ _ _ t2.1 in
    let t4 = passed _ _ _ t3.1 in
    let t5 = passed _ _ _ t4.1 in
    let t6 = passed _ _ _ t5.1 in
    let t7 = passed _ _ _ t6.1 in
    record {
      long = leb-true _ _ t1.0;
      magic = eqb-true _ _ t2.0;
      version = eqb-true _ _ t3.0;
      header_size = eqb-true _ _ t4.0;
      block_size = eqb-true _ _ t5.0;
      flags = t6.0;
      mapping = t7.0;
    }

passes : (bytes : List ℕ) → Holds bytes → first_failing (header_tests bytes) ≡ None
unfolding header_tests
passes bytes h =
    rw (le-leb _ _ h.long, eq-eqb _ _ h.magic, eq-eqb _ _ h.version, eq-eqb _ _ h.header_size, eq-eqb _ _ h.block_size, h.flags, h.mapping) refl

-- ---- what is read is spelled so

abbrev kind_in : ℕ → ℕ → HeaderKind
kind_in flags place = cond (eqb flags 2) (Mapped place) (Plain place)

kind-flags : (flags place : ℕ) → (eqb flags 0 || eqb flags 2) ≡ true → flags_of (kind_in flags place) ≡ flags
kind-flags flags place h =
    elim (or_cases _ _ h) [
      | inl plain ↦ subst (λ (n : ℕ). flags_of (kind_in n place) ≡ n) (sym (eqb-true flags 0 plain)) refl
      | inr mapped ↦ subst (λ (n : ℕ). flags_of (kind_in n place) ≡ n) (sym (eqb-true flags 2 mapped)) refl
    ]

kind-place : (flags place : ℕ) → place_of (kind_in flags place) ≡ place
kind-place flags place = elim (eqb flags 2) as (λ b. place_of (cond b (Mapped place) (Plain place)) ≡ place) [ true ↦ refl | false ↦ refl ]

kind-maps : (b : Bool) (place size : ℕ) → cond b (is_mapping place size) true ≡ true → MayMap (cond b (Mapped place) (Plain place)) size
kind-maps true place size h = let both = and_parts _ _ h in (eqb-true _ _ both.0, ltb-true _ _ both.1)
kind-maps false place size h = tt

in_grammar : (bytes : List ℕ) → AreBytes bytes → Holds bytes → IsHeader (header_in bytes)
unfolding header_in
in_grammar bytes fits h = record {
  place = subst (λ (n : ℕ). n < 2 ^ 64) (sym (kind-place (field 4 20 bytes) (field 8 24 bytes))) (field-lt 8 24 bytes fits (omega (arith, h.long)));
  size = field-lt 8 32 bytes fits (omega (arith, h.long));
  mapping = kind-maps (eqb (field 4 20 bytes) 2) (field 8 24 bytes) (field 8 32 bytes) h.mapping;
  id_length = omega (arith, h.long, length-take 16 (drop 40 bytes), length-drop 40 bytes);
  id_bytes = AreBytes-take 16 _ (AreBytes-drop 40 bytes fits);
}

spelled_by_fields : (bytes : List ℕ) → AreBytes bytes → Holds bytes → header_bytes (header_in bytes) ≡ take 56 bytes
unfolding header_in header_bytes
spelled_by_fields bytes fits h =
    let next = field_next bytes fits in
    let flags = sym (kind-flags (field 4 20 bytes) (field 8 24 bytes) h.flags) in
    let place = sym (kind-place (field 4 20 bytes) (field 8 24 bytes)) in
    let e8 : le_bytes 8 0x5346434e49 ≡ take 8 bytes = next 8 0 _ [] (omega (arith, h.long)) refl h.magic in
    let e16 = next 8 8 1 _ (omega (arith, h.long)) e8 h.version in
    let e18 = next 2 16 56 _ (omega (arith, h.long)) e16 h.header_size in
    let e20 = next 2 18 4096 _ (omega (arith, h.long)) e18 h.block_size in
    let e24 = next 4 20 _ _ (omega (arith, h.long)) e20 flags in
    let e32 = next 8 24 _ _ (omega (arith, h.long)) e24 place in
    let e40 = next 8 32 _ _ (omega (arith, h.long)) e32 refl in
    ap (λ (x : List ℕ). x ++ take 16 (drop 40 bytes)) e40 ∙ take-then 16 40 bytes

-- ---- what is spelled so is read

pub header_bytes-length : (h : Header) → length h.id ≡ 16 → length (header_bytes h) ≡ 56
unfolding header_bytes le_bytes
header_bytes-length h e = omega (arith, e)

-- the kind that a spelling's flags and place give
kind_again : (kind : HeaderKind) (flags place : ℕ) → flags ≡ flags_of kind → place ≡ place_of kind → kind_in flags place ≡ kind
kind_again (Plain first) flags place e f = rw (e, f) refl
kind_again (Mapped offset) flags place e f = rw (e, f) refl

flags_again : (kind : HeaderKind) (flags : ℕ) → flags ≡ flags_of kind → (eqb flags 0 || eqb flags 2) ≡ true
flags_again (Plain first) flags e = rw e refl
flags_again (Mapped offset) flags e = rw e refl

maps_again : (kind : HeaderKind) (flags place size : ℕ) → flags ≡ flags_of kind → place ≡ place_of kind → MayMap kind size → cond (eqb flags 2) (is_mapping place size) true ≡ true
maps_again (Plain first) flags place size e f h = rw e refl
maps_again (Mapped offset) flags place size e f h = rw (e, f) (and_from _ _ (eq-eqb _ _ h.0) (lt-ltb _ _ h.1))

-- the fields of bytes that begin with a spelling
record Fields (h : Header) (bytes : List ℕ) : Type 0 where
  flags : field 4 20 bytes ≡ flags_of h.kind
  place : field 8 24 bytes ≡ place_of h.kind
  size : field 8 32 bytes ≡ h.size
  id : take 16 (drop 40 bytes) ≡ h.id

flags-lt : (kind : HeaderKind) → flags_of kind < 256 ^ 4
flags-lt (Plain first) = omega arith
flags-lt (Mapped offset) = omega arith

fields_of : (h : Header) (bytes : List ℕ) → IsHeader h → take 56 bytes ≡ header_bytes h → Fields h bytes
unfolding header_bytes le_bytes
fields_of h bytes fits e = record {
  flags = sym (field-take 4 20 56 bytes (omega arith)) ∙ ap (field 4 20) e ∙ le_number-le_bytes 4 (flags_of h.kind) (flags-lt h.kind);
  place = sym (field-take 8 24 56 bytes (omega arith)) ∙ ap (field 8 24) e ∙ le_number-le_bytes 8 (place_of h.kind) fits.place;
  size = sym (field-take 8 32 56 bytes (omega arith)) ∙ ap (field 8 32) e ∙ le_number-le_bytes 8 h.size fits.size;
  id = sym (drop-take 40 16 bytes) ∙ ap (drop 40) e;
}

holds_again : (h : Header) (bytes : List ℕ) → IsHeader h → take 56 bytes ≡ header_bytes h → Holds bytes
unfolding header_bytes le_bytes
holds_again h bytes fits e =
    let f = fields_of h bytes fits e in
    let len : length (take 56 bytes) ≡ 56 = ap length e ∙ header_bytes-length h fits.id_length in
    record {
      long = omega (arith, len, length-take 56 bytes);
      magic = sym (field-take 8 0 56 bytes (omega arith)) ∙ ap (field 8 0) e;
      version = sym (field-take 8 8 56 bytes (omega arith)) ∙ ap (field 8 8) e;
      header_size = sym (field-take 2 16 56 bytes (omega arith)) ∙ ap (field 2 16) e;
      block_size = sym (field-take 2 18 56 bytes (omega arith)) ∙ ap (field 2 18) e;
      flags = flags_again h.kind _ f.flags;
      mapping = rw f.size (maps_again h.kind _ _ h.size f.flags f.place fits.mapping);
    }

header_again : (h : Header) (bytes : List ℕ) → IsHeader h → take 56 bytes ≡ header_bytes h → header_in bytes ≡ h
unfolding header_in
header_again h bytes fits e =
    let f = fields_of h bytes fits e in
    let kind = kind_again h.kind _ _ f.flags f.place in
    let made : Header = record { kind = h.kind; size = h.size; id = h.id } in
    let same : header_in bytes ≡ made = rw (kind, f.size, f.id) refl in
    same

-- ---- the clauses

pub is_spelled : (bytes : List ℕ) (r : Result Header HeaderFault) → AreBytes bytes → r ≡ header_of bytes → IfOk r (λ h. IsHeader h × (header_bytes h ≡ take 56 bytes))
unfolding header_of
is_spelled bytes (Ok h) fits e =
    let found = judged_ok _ _ h (sym e) in
    let all = holds bytes found.0 in
    subst (λ (x : Header). IsHeader x × (header_bytes x ≡ take 56 bytes)) found.1 (in_grammar bytes fits all, spelled_by_fields bytes fits all)
is_spelled bytes (Err fault) fits e = tt

pub is_first : (bytes : List ℕ) (r : Result Header HeaderFault) → r ≡ header_of bytes → IfErr r (λ fault. first_failing (header_tests bytes) ≡ Some fault)
unfolding header_of
is_first bytes (Ok h) e = tt
is_first bytes (Err fault) e = judged_err _ _ fault (sym e)

pub is_accepted : (bytes : List ℕ) (r : Result Header HeaderFault) → r ≡ header_of bytes → (h : Header) → IsHeader h → take 56 bytes ≡ header_bytes h → r ≡ Ok h
unfolding header_of
is_accepted bytes r e h fits spelled =
    e ∙ ap (λ (failing : Option HeaderFault). judge failing (header_in bytes)) (passes bytes (holds_again h bytes fits spelled))
    ∙ ap (λ (x : Header). Ok x) (header_again h bytes fits spelled)
