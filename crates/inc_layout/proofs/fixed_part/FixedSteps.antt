-- The tests of a file's fixed part, one after another, over a content that may not be told.
use Rattle.std.proofs.Common.{◌≡◌, ℕ, ◌-◌, ◌<◌, ◌≤◌, Bool, List, ◌++◌, length, take, drop, min, Option, Some, None, Result, Ok, Err, refl, sym, ap, ◌∙◌, subst, arith, length-take}
use Rattle.std.proofs.Math.Seq.{take-append_seam}
use Rattle.std.specs.Prelude.{IfSome, nat_le}
use Rattle.std.proofs.lemmas.List.{take_min}
use Rattle.inc_bytes.specs.Tests.{first_failing, judge}
use Rattle.inc_bytes.proofs.Judging.{judged_err, judged_ok, passed}
use Rattle.inc_header.specs.Header.{header_of, place_of}
use Rattle.inc_header.specs.declared.header.Header.{Header}
use Rattle.inc_header.specs.declared.header.HeaderFault.{HeaderFault}
use Rattle.inc_md.specs.Chain.{chain_of}
use Rattle.inc_md.specs.Outcome.{GivesChain}
use Rattle.inc_md.specs.declared.fault.ChainFault.{ChainFault}
use Rattle.inc_md.specs.declared.fault.ChainFault.TheVariants as chain
use Rattle.inc_md.specs.declared.records.Records.{Records}
use Rattle.inc_md.specs.declared.records.SigRecord.{SigRecord}
use Rattle.inc_signature.specs.Signature.{signature_of}
use Rattle.inc_signature.specs.declared.signature.SigInfo.{SigInfo}
use Rattle.inc_signature.specs.declared.signature.SigFault.{SigFault}
use Rattle.inc_entry.specs.Spans.{IsInside, is_inside}
use Rattle.inc_entry.proofs.SpanLemmas.{inside_means}
use Rattle.inc_layout.specs.opening.Faults.{GivesLayoutFault, chain_fault, told_header, told_sig}
use Rattle.inc_layout.specs.fixed.Fixed.{Fixed, IsHeaderOf, blob_in, blob_span, blob_span_tests, fixed_of, front_of, if_passed, most_blob, most_length, needs_map, plain_of, sig_in, with_chain, with_front, with_plain, with_sig}
use Rattle.inc_layout.specs.fixed.Told.{GivesBlob, GivesFixed, GivesFront, IsBlobFault}
use Rattle.inc_layout.specs.declared.fault.LayoutFault.{LayoutFault}
use Rattle.inc_layout.specs.declared.fault.LayoutFault.TheVariants as faults
use Rattle.inc_layout.specs.declared.fault.LayoutFault.TheVariants.{TooLong, Signature, ReadFault, OutOfMemory}
use Rattle.inc_layout.specs.declared.fixed.part.FixedPart.{FixedPart}
use Rattle.inc_layout.specs.declared.fixed.part.Front.{Front}
use Rattle.inc_layout.proofs.BoolLemmas.{is_le, not_le}
use Rattle.inc_layout.proofs.fixed_part.FixedMeaning.{front_stands}

-- ---- faults

pub gives_fault : {T : Type 0} (fault : LayoutFault) (wanted : Result T LayoutFault) → wanted ≡ Err fault → GivesLayoutFault fault wanted
gives_fault ReadFault wanted e = tt
gives_fault OutOfMemory wanted e = tt
gives_fault fault wanted e = e

-- a fault that passes through
pub same_fault : {T U : Type 0} (fault : LayoutFault) (before : Result T LayoutFault) (wanted : Result U LayoutFault) → GivesLayoutFault fault before → (before ≡ Err fault → wanted ≡ Err fault)
    → GivesLayoutFault fault wanted
same_fault ReadFault before wanted g on = tt
same_fault OutOfMemory before wanted g on = tt
same_fault fault before wanted g on = on g

abbrev pub HasLength : Option (List ℕ) → ℕ → Type 0
HasLength told len = IfSome told (λ bytes. len ≡ length bytes)

-- ---- the front

-- the room that was filled from the file's start
pub front_room : (told : Option (List ℕ)) (count : ℕ) (before room : List ℕ)
    → IfSome told (λ bytes. count ≡ min (length before) (length bytes - 0)) → IfSome told (λ bytes. room ≡ take count (drop 0 bytes) ++ drop count before)
    → IfSome told (λ bytes. take count room ≡ take (length before) bytes)
front_room None count before room counted filled = tt
front_room (Some bytes) count before room counted filled =
    let sized : length (take count (drop 0 bytes)) ≡ count = rw length-take (omega arith) in
    let seam : take count (take count bytes ++ drop count before) ≡ take count bytes = rw sized at (take-append_seam (take count bytes) (drop count before)) in
    ap (take count) filled ∙ seam ∙ ap (λ (n : ℕ). take n bytes) (counted ∙ (let e : min (length before) (length bytes - 0) ≡ min (length before) (length bytes) = omega arith in e)) ∙ take_min (length before) bytes

short_front : (bytes : List ℕ) (len : ℕ) → len ≡ length bytes → len ≤ most_length → front_of bytes ≡ told_header (header_of (take 56 bytes))
unfolding front_of
short_front bytes len is le = rw (is_le (length bytes) most_length (omega arith)) refl

pub too_long : (told : Option (List ℕ)) (len : ℕ) → HasLength told len → most_length < len → IfSome told (λ bytes. GivesFront bytes (Err TooLong))
unfolding front_of
too_long None len is lt = tt
too_long (Some bytes) len is lt = rw (not_le (length bytes) most_length (omega arith)) refl

pub no_header : (told : Option (List ℕ)) (len : ℕ) (read : List ℕ) (inner : HeaderFault) (fault : LayoutFault) → HasLength told len → len ≤ most_length
    → IfSome told (λ bytes. read ≡ take 56 bytes) → Err inner ≡ header_of read → fault ≡ faults.Header inner → IfSome told (λ bytes. GivesFront bytes (Err fault))
no_header None len read inner fault l le is e same = tt
no_header (Some bytes) len read inner fault l le is e same =
    gives_fault fault (front_of bytes) (short_front bytes len l le ∙ ap (λ (x : List ℕ). told_header (header_of x)) (sym is) ∙ ap told_header (sym e) ∙ (λ i. Err (sym same i)))

pub front_given : (told : Option (List ℕ)) (len : ℕ) (read : List ℕ) (header : Header) (front : Front) → HasLength told len → len ≤ most_length
    → IfSome told (λ bytes. read ≡ take 56 bytes) → Ok header ≡ header_of read → front.header ≡ header → front.len ≡ len → IfSome told (λ bytes. GivesFront bytes (Ok front))
front_given None len read header front l le is e h n = tt
front_given (Some bytes) len read header front l le is e h n =
    (short_front bytes len l le ∙ ap (λ (x : List ℕ). told_header (header_of x)) (sym is) ∙ ap told_header (sym e) ∙ (λ i. Ok (sym h i)), n ∙ l)

pub front_told : (told : Option (List ℕ)) (front : Front) → IfSome told (λ bytes. GivesFront bytes (Ok front)) → IfSome told (λ bytes. IsHeaderOf bytes front.header)
front_told None front given = tt
front_told (Some bytes) front given = front_stands bytes front.header given.0

-- ---- the whole part

abbrev pub GivesAll : Option (List ℕ) → Result FixedPart LayoutFault → Type 0
GivesAll told result = IfSome told (λ bytes. GivesFixed (length bytes) result (fixed_of bytes))

pub no_front : (told : Option (List ℕ)) (fault : LayoutFault) → IfSome told (λ bytes. GivesFront bytes (Err fault)) → GivesAll told (Err fault)
unfolding fixed_of
no_front None fault given = tt
no_front (Some bytes) fault given = same_fault fault (front_of bytes) (fixed_of bytes) given (ap (with_front bytes))

plain_given : (bytes : List ℕ) (front : Front) (plain : Result Header LayoutFault) → GivesFront bytes (Ok front) → plain_of front.header ≡ plain → fixed_of bytes ≡ with_plain bytes plain
unfolding fixed_of
plain_given bytes front plain given e = ap (with_front bytes) given.0 ∙ ap (with_plain bytes) e

pub not_plain : (told : Option (List ℕ)) (front : Front) (fault : LayoutFault) → IfSome told (λ bytes. GivesFront bytes (Ok front)) → plain_of front.header ≡ Err fault → GivesAll told (Err fault)
not_plain None front fault given e = tt
not_plain (Some bytes) front fault given e = gives_fault fault (fixed_of bytes) (plain_given bytes front (Err fault) given e)

pub plain_length : (told : Option (List ℕ)) (front : Front) (len : ℕ) → IfSome told (λ bytes. GivesFront bytes (Ok front)) → len ≡ front.len → HasLength told len
plain_length None front len given e = tt
plain_length (Some bytes) front len given e = e ∙ given.1

pub plain_part : (told : Option (List ℕ)) (front : Front) (header : Header) (len : ℕ) (result : Result FixedPart LayoutFault) → IfSome told (λ bytes. GivesFront bytes (Ok front))
    → plain_of front.header ≡ Ok header → len ≡ front.len → IfSome told (λ bytes. GivesFixed len result (with_plain bytes (Ok header))) → GivesAll told result
plain_part None front header len result given e l part = tt
plain_part (Some bytes) front header len result given e l part =
    subst (λ (n : ℕ). GivesFixed n result (fixed_of bytes)) (l ∙ given.1) (subst (λ (x : Result Fixed LayoutFault). GivesFixed len result x) (sym (plain_given bytes front (Ok header) given e)) part)

-- ---- the chain

chain_passes : (fault : ChainFault) (bytes : List ℕ) (header : Header) (found : Result Records ChainFault) → GivesChain (Err fault) found
    → GivesLayoutFault (chain_fault fault) (with_chain bytes header found)
chain_passes chain.ReadFault bytes header found g = tt
chain_passes chain.OutOfMemory bytes header found g = tt
chain_passes fault bytes header found g = ap (with_chain bytes header) g

same_chain : (bytes : List ℕ) (len first : ℕ) (needs : Bool) (header : Header) → len ≡ length bytes → first ≡ place_of header.kind → needs ≡ needs_map header
    → chain_of bytes len first needs ≡ chain_of bytes (length bytes) (place_of header.kind) (needs_map header)
same_chain bytes len first needs header l f n = λ i. chain_of bytes (l i) (f i) (n i)

pub no_chain : (told : Option (List ℕ)) (len first : ℕ) (needs : Bool) (header : Header) (inner : ChainFault) (fault : LayoutFault)
    → HasLength told len → first ≡ place_of header.kind → needs ≡ needs_map header → fault ≡ chain_fault inner
    → IfSome told (λ bytes. GivesChain (Err inner) (chain_of bytes len first needs))
    → IfSome told (λ bytes. GivesLayoutFault fault (with_plain bytes (Ok header)))
no_chain None len first needs header inner fault l f n is given = tt
no_chain (Some bytes) len first needs header inner fault l f n is given =
    subst (λ (x : LayoutFault). GivesLayoutFault x (with_plain bytes (Ok header))) (sym is)
    (chain_passes inner bytes header _ (subst (λ (x : Result Records ChainFault). GivesChain (Err inner) x) (same_chain bytes len first needs header l f n) given))

pub with_records : (told : Option (List ℕ)) (len first : ℕ) (needs : Bool) (header : Header) (records : Records) (result : Result FixedPart LayoutFault)
    → HasLength told len → first ≡ place_of header.kind → needs ≡ needs_map header
    → IfSome told (λ bytes. GivesChain (Ok records) (chain_of bytes len first needs))
    → IfSome told (λ bytes. GivesFixed len result (with_chain bytes header (Ok records)))
    → IfSome told (λ bytes. GivesFixed len result (with_plain bytes (Ok header)))
with_records None len first needs header records result l f n read given = tt
with_records (Some bytes) len first needs header records result l f n read given =
    let found : Ok records ≡ chain_of bytes (length bytes) (place_of header.kind) (needs_map header) = sym read ∙ same_chain bytes len first needs header l f n in
    subst (λ (x : Result Records ChainFault). GivesFixed len result (with_chain bytes header x)) found given

-- ---- the signature

-- what the tests of the blob's place answered
abbrev pub IsTested : ℕ → SigRecord → Result (Unit {0}) LayoutFault → Type 0
IsTested len signature result = result ≡ judge (first_failing (blob_span_tests len signature)) tt

pub no_blob_place : (told : Option (List ℕ)) (len : ℕ) (signature : SigRecord) (fault : LayoutFault) → HasLength told len
    → IsTested len signature (Err fault) → IfSome told (λ bytes. GivesLayoutFault fault (sig_in bytes (Some signature)))
no_blob_place None len signature fault l e = tt
no_blob_place (Some bytes) len signature fault l e =
    let fails : first_failing (blob_span_tests (length bytes) signature) ≡ Some fault = ap (λ (n : ℕ). first_failing (blob_span_tests n signature)) (sym l) ∙ judged_err {Value = Unit {0}} _ tt fault (sym e) in
    gives_fault fault _ (ap (λ (failing : Option LayoutFault). if_passed failing (told_sig (signature_of (blob_in bytes signature)))) fails)

inside : (len : ℕ) (signature : SigRecord) → first_failing (blob_span_tests len signature) ≡ None → IsInside len (blob_span signature)
unfolding blob_span_tests
inside len signature none =
    let second = passed (nat_le signature.sig_size most_blob) _ _ none in
    inside_means len (blob_span signature) (passed (is_inside len (blob_span signature)) _ _ second.1).0

passes : (bytes : List ℕ) (len : ℕ) (signature : SigRecord) → len ≡ length bytes → IsTested len signature (Ok tt) → first_failing (blob_span_tests (length bytes) signature) ≡ None
passes bytes len signature l e = ap (λ (n : ℕ). first_failing (blob_span_tests n signature)) (sym l) ∙ (judged_ok {Value = Unit {0}} _ tt tt (sym e)).0

after_tests : (bytes : List ℕ) (signature : SigRecord) → first_failing (blob_span_tests (length bytes) signature) ≡ None
    → sig_in bytes (Some signature) ≡ told_sig (signature_of (blob_in bytes signature))
after_tests bytes signature none = ap (λ (failing : Option LayoutFault). if_passed failing (told_sig (signature_of (blob_in bytes signature)))) none

blob_passes : (fault : LayoutFault) (found : Result SigInfo SigFault) → IsBlobFault fault found → GivesLayoutFault fault (told_sig found)
blob_passes ReadFault found g = tt
blob_passes OutOfMemory found g = tt
blob_passes (Signature fault) found g = ap told_sig g
blob_passes fault found g = absurd g

pub no_blob : (told : Option (List ℕ)) (len : ℕ) (signature : SigRecord) (fault : LayoutFault) → HasLength told len → IsTested len signature (Ok tt)
    → IfSome told (λ bytes. IsInside (length bytes) (blob_span signature) → GivesBlob (Err fault) (signature_of (blob_in bytes signature)))
    → IfSome told (λ bytes. GivesLayoutFault fault (sig_in bytes (Some signature)))
no_blob None len signature fault l e given = tt
no_blob (Some bytes) len signature fault l e given =
    let none = passes bytes len signature l e in
    subst (λ (x : Result (Option SigInfo) LayoutFault). GivesLayoutFault fault x) (sym (after_tests bytes signature none)) (blob_passes fault _ (given (inside (length bytes) signature none)))

pub has_blob : (told : Option (List ℕ)) (len : ℕ) (signature : SigRecord) (sig : SigInfo) → HasLength told len → IsTested len signature (Ok tt)
    → IfSome told (λ bytes. IsInside (length bytes) (blob_span signature) → GivesBlob (Ok sig) (signature_of (blob_in bytes signature)))
    → IfSome told (λ bytes. sig_in bytes (Some signature) ≡ Ok (Some sig))
has_blob None len signature sig l e given = tt
has_blob (Some bytes) len signature sig l e given =
    let none = passes bytes len signature l e in
    after_tests bytes signature none ∙ ap told_sig (given (inside (length bytes) signature none))

pub no_sig : (told : Option (List ℕ)) (header : Header) (records : Records) (fault : LayoutFault) → IfSome told (λ bytes. GivesLayoutFault fault (sig_in bytes records.signature))
    → IfSome told (λ bytes. GivesLayoutFault fault (with_chain bytes header (Ok records)))
no_sig None header records fault given = tt
no_sig (Some bytes) header records fault given = same_fault fault (sig_in bytes records.signature) (with_chain bytes header (Ok records)) given (ap (with_sig (length bytes) header records))

pub has_sig : (told : Option (List ℕ)) (len : ℕ) (header : Header) (records : Records) (sig : Option SigInfo) (result : Result FixedPart LayoutFault) → HasLength told len
    → IfSome told (λ bytes. sig_in bytes records.signature ≡ Ok sig) → GivesFixed len result (with_sig len header records (Ok sig))
    → IfSome told (λ bytes. GivesFixed len result (with_chain bytes header (Ok records)))
has_sig None len header records sig result l read given = tt
has_sig (Some bytes) len header records sig result l read given =
    subst (λ (x : Result Fixed LayoutFault). GivesFixed len result x) (λ i. with_sig (l i) header records (sym read i)) given
