-- Which files are taken, and which entry a file is refused for.
use Rattle.std.proofs.Common.{◌≡◌, ℕ, ◌*◌, Bool, true, false, cond, List, ◌∷◌, [], length, take, Option, Some, None, Result, Ok, Err, refl, ap, ◌∙◌, subst}
use Rattle.std.specs.Prelude.{◌==◌, IfSome, nat_le}
use Rattle.inc_bytes.specs.Tests.{first_failing}
use Rattle.inc_bytes.proofs.Judging.{judged_err}
use Rattle.inc_header.specs.Header.{header_of, place_of}
use Rattle.inc_header.specs.declared.header.Header.{Header}
use Rattle.inc_header.specs.declared.header.HeaderFault.{HeaderFault}
use Rattle.inc_header.specs.declared.header.HeaderKind.{HeaderKind}
use Rattle.inc_header.specs.declared.header.HeaderKind.TheVariants as kind
use Rattle.inc_md.specs.Chain.{chain_of}
use Rattle.inc_md.specs.declared.fault.ChainFault.{ChainFault}
use Rattle.inc_md.specs.declared.records.Records.{Records}
use Rattle.inc_md.specs.declared.records.SigRecord.{SigRecord}
use Rattle.inc_signature.specs.Signature.{signature_of}
use Rattle.inc_signature.specs.declared.signature.SigFault.{SigFault}
use Rattle.inc_signature.specs.declared.signature.SigFault.TheVariants as signature_faults
use Rattle.inc_signature.specs.declared.signature.SigInfo.{SigInfo}
use Rattle.inc_entry.specs.Entry.{Places, areas_of, block_bytes, entries, map_span, tree_span}
use Rattle.inc_entry.specs.Spans.{are_apart, is_inside}
use Rattle.inc_entry.specs.Stored.{is_past}
use Rattle.inc_tree.specs.shape.Geometry.{hash_blocks}
use Rattle.inc_tree.specs.shape.Limits.{most_size}
use Rattle.inc_layout.specs.Backing.{IsBackingFile, IsLaidOut, first_past, laid_of, layout_from, opened_of, with_fixed, with_layout, with_past}
use Rattle.inc_layout.specs.opening.Faults.{GivesOpening, told_header, told_sig}
use Rattle.inc_layout.specs.fixed.Fixed.{Fixed, area_tests, blob_in, blob_span_tests, fixed_from, fixed_of, front_of, hash_size, if_passed, map_count, most_length, needs_map, places_in, plain_kind, plain_of, sig_in, tests_with, with_chain, with_front, with_plain, with_sig}
use Rattle.inc_layout.specs.opening.Opening.{Accepts, IsLeastPast}
use Rattle.inc_layout.specs.declared.fault.LayoutFault.{LayoutFault}
use Rattle.inc_layout.specs.declared.fault.LayoutFault.TheVariants as faults
use Rattle.inc_layout.specs.declared.fault.LayoutFault.TheVariants.{PlacePastEnd, ReadFault, OutOfMemory}
use Rattle.inc_layout.specs.declared.opened.Layout.{Layout}
use Rattle.inc_layout.specs.declared.opened.Opened.{Opened}
use Rattle.inc_layout.proofs.opened_file.BackingMeaning.{stands_backing, stands_laid}
use Rattle.inc_layout.proofs.fixed_part.FixedMeaning.{fixed_stands}
use Rattle.inc_layout.proofs.ListedLemmas.{first_means}

-- ---- a file that stands is taken

accepts : {T : Type 0} (found result : Result T LayoutFault) (wanted : T) → found ≡ Ok wanted → GivesOpening result found → Accepts result wanted
accepts found (Ok opened) wanted e given = cc
accepts found (Err ReadFault) wanted e given = tt
accepts found (Err OutOfMemory) wanted e given = tt
accepts found (Err fault) wanted e given = absurd cc

pub layout_accepted : (told : Option (List ℕ)) (result : Result Layout LayoutFault) → IfSome told (λ bytes. GivesOpening result (laid_of bytes))
    → IfSome told (λ bytes. (wanted : Layout) → IsLaidOut bytes wanted → Accepts result wanted)
layout_accepted None result given = tt
layout_accepted (Some bytes) result given = λ wanted is. accepts (laid_of bytes) result wanted (stands_laid bytes wanted is) given

pub told_accepted : (told : Option (List ℕ)) (result : Result Opened LayoutFault) → IfSome told (λ bytes. GivesOpening result (opened_of bytes))
    → IfSome told (λ bytes. (wanted : Opened) → IsBackingFile bytes wanted → Accepts result wanted)
told_accepted None result given = tt
told_accepted (Some bytes) result given = λ wanted is. accepts (opened_of bytes) result wanted (stands_backing bytes wanted is) given

-- ---- no test of the fixed part tells of an entry

abbrev NotPast : {T : Type 0} → Result T LayoutFault → Type 0
NotPast result = (i : ℕ) → result ≡ Err (PlacePastEnd i) → ⊥

size_not_past : (header : Header) (small : Bool) → NotPast (cond small (Ok header) (Err faults.TooLarge))
size_not_past header true i e = cc
size_not_past header false i e = cc

kind_not_past : (header : Header) (k : HeaderKind) → NotPast (plain_kind header k)
kind_not_past header (kind.Plain first) i e = size_not_past header (nat_le header.size most_size) i e
kind_not_past header (kind.Mapped offset) i e = cc

plain_not_past : (header : Header) → NotPast (plain_of header)
unfolding plain_of
plain_not_past header i e = kind_not_past header header.kind i e

header_not_past : (read : Result Header HeaderFault) → NotPast (told_header read)
header_not_past (Ok header) i e = cc
header_not_past (Err fault) i e = cc

length_not_past : (bytes : List ℕ) (short : Bool) → NotPast (cond short (told_header (header_of (take 56 bytes))) (Err faults.TooLong))
length_not_past bytes true i e = header_not_past (header_of (take 56 bytes)) i e
length_not_past bytes false i e = cc

front_not_past : (bytes : List ℕ) → NotPast (front_of bytes)
unfolding front_of
front_not_past bytes i e = length_not_past bytes (nat_le (length bytes) most_length) i e

blob_not_past : (small inside : Bool) (i : ℕ) → first_failing ((small, faults.Signature signature_faults.TooLong) ∷ (inside, faults.SignatureOutside) ∷ []) ≡ Some (PlacePastEnd i) → ⊥
blob_not_past false inside i e = cc
blob_not_past true false i e = cc
blob_not_past true true i e = cc

read_not_past : (read : Result SigInfo SigFault) → NotPast (told_sig read)
read_not_past (Ok sig) i e = cc
read_not_past (Err fault) i e = cc

after_not_past : {T : Type 0} (failing : Option LayoutFault) (next : Result T LayoutFault) → ((i : ℕ) → failing ≡ Some (PlacePastEnd i) → ⊥) → NotPast next → NotPast (if_passed failing next)
after_not_past None next one two i e = two i e
after_not_past (Some fault) next one two i e = one i (let same : fault ≡ PlacePastEnd i = cc in ap (λ (f : LayoutFault). Some f) same)

sig_not_past : (bytes : List ℕ) (signature : Option SigRecord) → NotPast (sig_in bytes signature)
unfolding blob_span_tests
sig_not_past bytes None i e = cc
sig_not_past bytes (Some signature) i e =
    after_not_past (first_failing (blob_span_tests (length bytes) signature)) (told_sig (signature_of (blob_in bytes signature)))
    (λ j f. blob_not_past _ _ j f) (read_not_past (signature_of (blob_in bytes signature))) i e

areas_not_past : (counted map_in sized tree_in apart : Bool) (wanted got wanted_size got_size i : ℕ)
    → first_failing ((counted, faults.MapCount wanted got) ∷ (map_in, faults.MapOutside) ∷ (sized, faults.TreeSize wanted_size got_size) ∷ (tree_in, faults.TreeOutside) ∷ (apart, faults.Overlap) ∷ [])
    ≡ Some (PlacePastEnd i) → ⊥
areas_not_past false map_in sized tree_in apart wanted got wanted_size got_size i e = cc
areas_not_past true false sized tree_in apart wanted got wanted_size got_size i e = cc
areas_not_past true true false tree_in apart wanted got wanted_size got_size i e = cc
areas_not_past true true true false apart wanted got wanted_size got_size i e = cc
areas_not_past true true true true false wanted got wanted_size got_size i e = cc
areas_not_past true true true true true wanted got wanted_size got_size i e = cc

tests_not_past : (len : ℕ) (header : Header) (records : Records) (i : ℕ) → first_failing (tests_with len header records) ≡ Some (PlacePastEnd i) → ⊥
unfolding area_tests
tests_not_past len header records i e =
    let places : Places = places_in header.size records in
    areas_not_past (map_count records.map == entries places) (is_inside len (map_span places)) (hash_size records.signature == block_bytes * hash_blocks places.shape) (is_inside len (tree_span places))
    (are_apart (areas_of places)) (entries places) (map_count records.map) (block_bytes * hash_blocks places.shape) (hash_size records.signature) i e

with_sig_not_past : (len : ℕ) (header : Header) (records : Records) (read : Result (Option SigInfo) LayoutFault) → NotPast read → NotPast (with_sig len header records read)
with_sig_not_past len header records (Ok sig) one i e =
    tests_not_past len header records i (judged_err (first_failing (tests_with len header records)) (fixed_from header records sig) (PlacePastEnd i) e)
with_sig_not_past len header records (Err fault) one i e = one i (let same : fault ≡ PlacePastEnd i = cc in ap (λ (f : LayoutFault). Err f) same)

chain_not_past : (bytes : List ℕ) (header : Header) (read : Result Records ChainFault) → NotPast (with_chain bytes header read)
chain_not_past bytes header (Ok records) i e = with_sig_not_past (length bytes) header records (sig_in bytes records.signature) (sig_not_past bytes records.signature) i e
chain_not_past bytes header (Err fault) i e = cc

with_plain_not_past : (bytes : List ℕ) (read : Result Header LayoutFault) → NotPast read → NotPast (with_plain bytes read)
with_plain_not_past bytes (Ok header) one i e = chain_not_past bytes header (chain_of bytes (length bytes) (place_of header.kind) (needs_map header)) i e
with_plain_not_past bytes (Err fault) one i e = one i (let same : fault ≡ PlacePastEnd i = cc in ap (λ (f : LayoutFault). Err f) same)

with_front_not_past : (bytes : List ℕ) (read : Result Header LayoutFault) → NotPast read → NotPast (with_front bytes read)
with_front_not_past bytes (Ok header) one i e = with_plain_not_past bytes (plain_of header) (plain_not_past header) i e
with_front_not_past bytes (Err fault) one i e = one i (let same : fault ≡ PlacePastEnd i = cc in ap (λ (f : LayoutFault). Err f) same)

fixed_not_past : (bytes : List ℕ) → NotPast (fixed_of bytes)
unfolding fixed_of
fixed_not_past bytes i e = with_front_not_past bytes (front_of bytes) (front_not_past bytes) i e

-- ---- the least entry past the end

past_found : (past : Option ℕ) (layout : Layout) (i : ℕ) → with_past past layout ≡ Err (PlacePastEnd i) → past ≡ Some i
past_found None layout i e = absurd cc
past_found (Some at) layout i e = cc

least_in : (bytes : List ℕ) (found : Result Fixed LayoutFault) → fixed_of bytes ≡ found → (i : ℕ) → with_fixed bytes found ≡ Err (PlacePastEnd i) → IsLeastPast bytes i
least_in bytes (Ok fixed) is i e = record {
  fixed = fixed;
  stands = fixed_stands bytes fixed is;
  least = first_means (entries fixed.places) (is_past fixed.places bytes) i (past_found (first_past fixed.places bytes) (layout_from bytes fixed) i e);
}
least_in bytes (Err fault) is i e = absurd (fixed_not_past bytes i (is ∙ (let same : fault ≡ PlacePastEnd i = cc in ap (λ (f : LayoutFault). Err f) same)))

least_past : (bytes : List ℕ) (i : ℕ) → laid_of bytes ≡ Err (PlacePastEnd i) → IsLeastPast bytes i
unfolding laid_of
least_past bytes i e = least_in bytes (fixed_of bytes) refl i e

past_laid : (bytes : List ℕ) (found : Result Layout LayoutFault) (i : ℕ) → with_layout bytes found ≡ Err (PlacePastEnd i) → found ≡ Err (PlacePastEnd i)
past_laid bytes (Ok layout) i e = absurd cc
past_laid bytes (Err fault) i e = let same : fault ≡ PlacePastEnd i = cc in ap (λ (f : LayoutFault). Err f) same

least_opened : (bytes : List ℕ) (i : ℕ) → opened_of bytes ≡ Err (PlacePastEnd i) → IsLeastPast bytes i
unfolding opened_of
least_opened bytes i e = least_past bytes i (past_laid bytes (laid_of bytes) i e)

pub layout_least : (told : Option (List ℕ)) (result : Result Layout LayoutFault) → IfSome told (λ bytes. GivesOpening result (laid_of bytes))
    → IfSome told (λ bytes. (i : ℕ) → result ≡ Err (PlacePastEnd i) → IsLeastPast bytes i)
layout_least None result given = tt
layout_least (Some bytes) result given = λ i e. least_past bytes i (subst (λ (r : Result Layout LayoutFault). GivesOpening r (laid_of bytes)) e given)

pub told_least : (told : Option (List ℕ)) (result : Result Opened LayoutFault) → IfSome told (λ bytes. GivesOpening result (opened_of bytes))
    → IfSome told (λ bytes. (i : ℕ) → result ≡ Err (PlacePastEnd i) → IsLeastPast bytes i)
told_least None result given = tt
told_least (Some bytes) result given = λ i e. least_opened bytes i (subst (λ (r : Result Opened LayoutFault). GivesOpening r (opened_of bytes)) e given)
