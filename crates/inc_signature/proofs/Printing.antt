-- A blob that passes the tests is what its root and signing info print, and what they print passes the tests.
use Rattle.std.proofs.Common.{◌≡◌, ℕ, ◌+◌, ◌-◌, ◌≤◌, true, leb, List, [], ◌∷◌, ◌++◌, length, take, drop, Option, Some, None, Result, Ok, Err, refl, sym, ap, subst, ◌∙◌, append_assoc, arith}
use Rattle.std.specs.Prelude.{IfOk, IfErr, IsOk, OnOk}
use Rattle.std.proofs.lemmas.Bool.{leb-true, eqb-true, eq-eqb, le-leb}
use Rattle.std.proofs.lemmas.List.{length-append, length-take, length-drop, take_at, drop_at, take_all, take-append-drop}
use Rattle.inc_bytes.specs.Fields.{AreBytes, le_bytes, field}
use Rattle.inc_bytes.specs.Tests.{first_failing, judge}
use Rattle.inc_bytes.proofs.Numbers.{AreBytes-drop, AreBytes-take, length-le_bytes, le_number-le_bytes, field-put, take-then, field_next}
use Rattle.inc_bytes.proofs.Judging.{passed, passed_both, judged_ok, judged_err, first_failing-append_left, first_failing-append_right}
use Rattle.inc_signature.specs.declared.signature.SigInfo.{SigInfo}
use Rattle.inc_signature.specs.declared.signature.SigFault.{SigFault}
use Rattle.inc_signature.specs.declared.signature.SigFault.TheVariants.{OutOfMemory}
use Rattle.inc_signature.specs.Signature.{hash_info, printed, info_end, signing_end, info_in, info_root, section_tests, info_tests, signature_tests, signature_in, signature_of, GivesSigInfo}

-- ---- what the tests say of the fields

record BlobHolds (bytes : List ℕ) : Type 0 where
  small : length bytes ≤ 8096
  version : field 4 0 bytes ≡ 2
  long : info_end bytes + 4 ≤ length bytes
  whole : signing_end bytes ≡ length bytes

record InfoHolds (info : List ℕ) : Type 0 where
  algorithm : field 4 0 info ≡ 1
  log_block : field 1 4 info ≡ 12
  salt_size : field 4 5 info ≡ 0
  root_size : field 4 9 info ≡ 32
  whole : length info ≡ 45

-- neither is greater
neither_greater : (a b : ℕ) → leb a b ≡ true → leb b a ≡ true → a ≡ b
neither_greater a b p q = omega (arith, leb-true a b p, leb-true b a q)

blob_holds : (bytes : List ℕ) → first_failing (section_tests bytes) ≡ None → BlobHolds bytes
unfolding section_tests
blob_holds bytes none =
    let t1 = passed _ _ _ none in
    let t2 = passed _ _ _ t1.1 in
    let t3 = passed _ _ _ t2.1 in
    let t4 = passed _ _ _ t3.1 in
    let t5 = passed _ _ _ t4.1 in
    let t6 = passed _ _ _ t5.1 in
    let t7 = passed _ _ _ t6.1 in
    record {
      small = leb-true _ _ t1.0;
      version = eqb-true _ _ t3.0;
      long = leb-true _ _ t5.0;
      whole = neither_greater (signing_end bytes) (length bytes) t6.0 t7.0;
    }

blob_passes : (bytes : List ℕ) → BlobHolds bytes → first_failing (section_tests bytes) ≡ None
unfolding section_tests info_end
blob_passes bytes h =
    let four : 4 ≤ length bytes = omega (arith, h.long) in
    let eight : 8 ≤ length bytes = omega (arith, h.long) in
    let inside : signing_end bytes ≤ length bytes = omega (arith, h.whole) in
    let ended : length bytes ≤ signing_end bytes = omega (arith, h.whole) in
    rw (le-leb _ _ h.small, le-leb _ _ four, eq-eqb _ _ h.version, le-leb _ _ eight, le-leb _ _ h.long, le-leb _ _ inside, le-leb _ _ ended) refl

info_holds : (info : List ℕ) → first_failing (info_tests info) ≡ None → InfoHolds info
unfolding info_tests
info_holds info none =
    let t1 = passed _ _ _ none in
    let t2 = passed _ _ _ t1.1 in
    let t3 = passed _ _ _ t2.1 in
    let t4 = passed _ _ _ t3.1 in
    let t5 = passed _ _ _ t4.1 in
    let t6 = passed _ _ _ t5.1 in
    let t7 = passed _ _ _ t6.1 in
    let t8 = passed _ _ _ t7.1 in
    let t9 = passed _ _ _ t8.1 in
    let t10 = passed _ _ _ t9.1 in
    record {
      algorithm = eqb-true _ _ t2.0;
      log_block = eqb-true _ _ t4.0;
      salt_size = eqb-true _ _ t6.0;
      root_size = eqb-true _ _ t8.0;
      whole = neither_greater (length info) 45 t10.0 t9.0;
    }

info_passes : (info : List ℕ) → InfoHolds info → first_failing (info_tests info) ≡ None
unfolding info_tests
info_passes info h =
    let long : (n : ℕ) → n ≤ 45 → leb n (length info) ≡ true = λ n le. le-leb n (length info) (omega (arith, h.whole)) in
    let ended : length info ≤ 45 = omega (arith, h.whole) in
    rw (long 4 (omega arith), eq-eqb _ _ h.algorithm, long 5 (omega arith), eq-eqb _ _ h.log_block, long 9 (omega arith), eq-eqb _ _ h.salt_size, long 13 (omega arith), eq-eqb _ _ h.root_size, long 45 (omega arith), le-leb _ _ ended) refl

-- ---- what is read prints the blob

info_printed : (info : List ℕ) → AreBytes info → InfoHolds info → hash_info (info_root info) ≡ info
unfolding hash_info
info_printed info fits h =
    let next = field_next info fits in
    let root-len : length (info_root info) ≡ 32 = omega (arith, h.whole, length-take 32 (drop 13 info), length-drop 13 info) in
    let e4 : le_bytes 4 1 ≡ take 4 info = next 4 0 1 [] (omega (arith, h.whole)) refl h.algorithm in
    let e5 = next 1 4 12 _ (omega (arith, h.whole)) e4 h.log_block in
    let e9 = next 4 5 0 _ (omega (arith, h.whole)) e5 h.salt_size in
    let e13 = next 4 9 (length (info_root info)) _ (omega (arith, h.whole)) e9 (h.root_size ∙ sym root-len) in
    ap (λ (x : List ℕ). x ++ take 32 (drop 13 info)) e13 ∙ take-then 32 13 info ∙ take_all 45 info (omega (arith, h.whole))

blob_printed : (bytes : List ℕ) → AreBytes bytes → BlobHolds bytes → InfoHolds (info_in bytes) → printed (info_root (info_in bytes)) (drop (info_end bytes + 4) bytes) ≡ bytes
unfolding printed info_end
blob_printed bytes fits h inner =
    let size = field 4 4 bytes in
    let rest = drop (8 + size + 4) bytes in
    let next = field_next bytes fits in
    let info-is : hash_info (info_root (info_in bytes)) ≡ info_in bytes = info_printed (info_in bytes) (AreBytes-take size _ (AreBytes-drop 8 bytes fits)) inner in
    let info-len : length (info_in bytes) ≡ size = omega (arith, h.long, length-take size (drop 8 bytes), length-drop 8 bytes) in
    let rest-len : field 4 (8 + size) bytes ≡ length rest = omega (arith, h.long, h.whole, length-drop (8 + size + 4) bytes) in
    let e4 : le_bytes 4 2 ≡ take 4 bytes = next 4 0 2 [] (omega (arith, h.long)) refl h.version in
    let e8 = next 4 4 (length (hash_info (info_root (info_in bytes)))) _ (omega (arith, h.long)) e4 (sym (ap length info-is ∙ info-len)) in
    let to_info = ap (λ (x : List ℕ). x ++ hash_info (info_root (info_in bytes))) e8 ∙ ap (λ (x : List ℕ). take 8 bytes ++ x) info-is ∙ take-then size 8 bytes in
    let to_size = next 4 (8 + size) (length rest) _ h.long to_info rest-len in
    ap (λ (x : List ℕ). x ++ rest) to_size ∙ take-append-drop (8 + size + 4) bytes

-- ---- what prints the blob is read

hash_info-length : (root : List ℕ) → length root ≡ 32 → length (hash_info root) ≡ 45
unfolding hash_info le_bytes
hash_info-length root e = omega (arith, e)

hash_info_holds : (root : List ℕ) → length root ≡ 32 → InfoHolds (hash_info root)
unfolding hash_info le_bytes
hash_info_holds root e = record {
  algorithm = refl;
  log_block = refl;
  salt_size = refl;
  root_size = le_number-le_bytes 4 (length root) (omega (arith, e)) ∙ e;
  whole = omega (arith, e);
}

root_again : (root : List ℕ) → length root ≡ 32 → info_root (hash_info root) ≡ root
unfolding hash_info le_bytes
root_again root e = take_all 32 root (omega (arith, e))

-- the parts of what is printed
record Parts (root signing : List ℕ) : Type 0 where
  version : field 4 0 (printed root signing) ≡ 2
  info_size : field 4 4 (printed root signing) ≡ 45
  info : take 45 (drop 8 (printed root signing)) ≡ hash_info root
  signing_size : field 4 53 (printed root signing) ≡ length signing
  rest : drop 57 (printed root signing) ≡ signing
  whole : length (printed root signing) ≡ 57 + length signing

parts_of : (root signing : List ℕ) → length root ≡ 32 → length (printed root signing) ≤ 8096 → Parts root signing
unfolding printed
parts_of root signing e small =
    let H = hash_info root in
    let A = le_bytes 4 2 in
    let B = le_bytes 4 (length H) in
    let C = le_bytes 4 (length signing) in
    let H-len : length H ≡ 45 = hash_info-length root e in
    let A-len : length A ≡ 4 = length-le_bytes 4 2 in
    let B-len : length B ≡ 4 = length-le_bytes 4 (length H) in
    let C-len : length C ≡ 4 = length-le_bytes 4 (length signing) in
    let AB-len : length (A ++ B) ≡ 8 = omega (arith, length-append A B, A-len, B-len) in
    let ABH-len : length (A ++ B ++ H) ≡ 53 = omega (arith, length-append (A ++ B) H, AB-len, H-len) in
    let ABHC-len : length (A ++ B ++ H ++ C) ≡ 57 = omega (arith, length-append (A ++ B ++ H) C, ABH-len, C-len) in
    let whole : length (printed root signing) ≡ 57 + length signing = omega (arith, length-append (A ++ B ++ H ++ C) signing, ABHC-len) in
    let at_C : printed root signing ≡ (A ++ B ++ H) ++ (C ++ signing) = append_assoc (A ++ B ++ H) C signing in
    let at_H : printed root signing ≡ (A ++ B) ++ (H ++ (C ++ signing)) = at_C ∙ append_assoc (A ++ B) H (C ++ signing) in
    let at_B : printed root signing ≡ A ++ (B ++ (H ++ (C ++ signing))) = at_H ∙ append_assoc A B (H ++ (C ++ signing)) in
    record {
      version = ap (field 4 0) at_B ∙ field-put 4 2 [] (B ++ (H ++ (C ++ signing))) 0 refl (omega arith);
      info_size = ap (field 4 4) at_B ∙ field-put 4 (length H) A (H ++ (C ++ signing)) 4 A-len (omega (arith, H-len)) ∙ H-len;
      info = ap (λ (x : List ℕ). take 45 (drop 8 x)) at_H ∙ ap (take 45) (drop_at (A ++ B) (H ++ (C ++ signing)) 8 AB-len) ∙ take_at H (C ++ signing) 45 H-len;
      signing_size = ap (field 4 53) at_C ∙ field-put 4 (length signing) (A ++ B ++ H) signing 53 ABH-len (omega (arith, whole, small));
      rest = drop_at (A ++ B ++ H ++ C) signing 57 ABHC-len;
      whole = whole;
    }

blob_again : (root signing : List ℕ) → length root ≡ 32 → length (printed root signing) ≤ 8096 → signature_of (printed root signing) ≡ Ok (record { root = root; signing = signing })
unfolding signature_of signature_tests signature_in info_end
blob_again root signing e small =
    let p = parts_of root signing e small in
    let bytes = printed root signing in
    let info-is : info_in bytes ≡ hash_info root = ap (λ (n : ℕ). take n (drop 8 bytes)) p.info_size ∙ p.info in
    let size-is : field 4 (8 + field 4 4 bytes) bytes ≡ length signing = ap (λ (n : ℕ). field 4 (8 + n) bytes) p.info_size ∙ p.signing_size in
    let signing-is : drop (8 + field 4 4 bytes + 4) bytes ≡ signing = ap (λ (n : ℕ). drop (8 + n + 4) bytes) p.info_size ∙ p.rest in
    let blob : BlobHolds bytes = record {
      small = small;
      version = p.version;
      long = omega (arith, p.info_size, p.whole);
      whole = omega (arith, p.info_size, size-is, p.whole);
    } in
    let info : InfoHolds (info_in bytes) = subst InfoHolds (sym info-is) (hash_info_holds root e) in
    let none : first_failing (section_tests bytes ++ info_tests (info_in bytes)) ≡ None = first_failing-append_right (section_tests bytes) (info_tests (info_in bytes)) (blob_passes bytes blob) ∙ info_passes (info_in bytes) info in
    let root-is : info_root (info_in bytes) ≡ root = ap info_root info-is ∙ root_again root e in
    let made : List ℕ → List ℕ → SigInfo = λ r s. record { root = r; signing = s } in
    ap (λ (failing : Option SigFault). judge failing (signature_in bytes)) none
    ∙ ap (λ (r : List ℕ). Ok (made r (drop (info_end bytes + 4) bytes))) root-is
    ∙ ap (λ (s : List ℕ). Ok (made root s)) signing-is

-- ---- from the parts of the reader

pub told_fault : (fault : SigFault) (judged : Result SigInfo SigFault) → (fault ≡ OutOfMemory → ⊥) → judged ≡ Err fault → GivesSigInfo (Err fault) judged
told_fault OutOfMemory judged ne e = absurd (ne refl)
told_fault fault judged ne e = e

pub memory_at_whole : (judged : Result SigInfo SigFault) (s : SigInfo) → judged ≡ Ok s → GivesSigInfo (Err OutOfMemory) judged
memory_at_whole judged s e = subst (λ (r : Result SigInfo SigFault). IsOk r) (sym e) refl

-- the blob's own tests fail
pub blob_refused : (bytes : List ℕ) (fault : SigFault) → Err fault ≡ judge (first_failing (section_tests bytes)) (info_end bytes) → signature_of bytes ≡ Err fault
unfolding signature_of signature_tests
blob_refused bytes fault e =
    ap (λ (failing : Option SigFault). judge failing (signature_in bytes)) (first_failing-append_left (section_tests bytes) (info_tests (info_in bytes)) fault (judged_err _ (info_end bytes) fault (sym e)))

-- the part of the blob that is read as its hash info section
abbrev part : List ℕ → ℕ → List ℕ
part bytes end = take (end - 8) (drop 8 bytes)

part_is : (bytes : List ℕ) (end : ℕ) → info_end bytes ≡ end → part bytes end ≡ info_in bytes
unfolding info_end
part_is bytes end e =
    let size : end - 8 ≡ field 4 4 bytes = omega (arith, e) in
    ap (λ (n : ℕ). take n (drop 8 bytes)) size

-- the tests of the hash info section fail
pub info_refused : (bytes : List ℕ) (end : ℕ) (fault : SigFault) → Ok end ≡ judge (first_failing (section_tests bytes)) (info_end bytes) → Err fault ≡ judge (first_failing (info_tests (part bytes end))) (info_root (part bytes end)) → signature_of bytes ≡ Err fault
unfolding signature_of signature_tests
info_refused bytes end fault blob e =
    let whole = judged_ok _ (info_end bytes) end (sym blob) in
    let first : first_failing (info_tests (info_in bytes)) ≡ Some fault = ap (λ (x : List ℕ). first_failing (info_tests x)) (sym (part_is bytes end whole.1)) ∙ judged_err _ (info_root (part bytes end)) fault (sym e) in
    ap (λ (failing : Option SigFault). judge failing (signature_in bytes)) (
    first_failing-append_right (section_tests bytes) (info_tests (info_in bytes)) whole.0
    ∙ first)

-- every test holds
pub all_hold : (bytes : List ℕ) (end : ℕ) (root : List ℕ) → Ok end ≡ judge (first_failing (section_tests bytes)) (info_end bytes) → Ok root ≡ judge (first_failing (info_tests (part bytes end))) (info_root (part bytes end)) → signature_of bytes ≡ Ok (record { root = root; signing = drop (end + 4) bytes })
unfolding signature_of signature_tests signature_in
all_hold bytes end root blob info =
    let whole = judged_ok _ (info_end bytes) end (sym blob) in
    let inner = judged_ok _ (info_root (part bytes end)) root (sym info) in
    let same = part_is bytes end whole.1 in
    let none : first_failing (info_tests (info_in bytes)) ≡ None = ap (λ (x : List ℕ). first_failing (info_tests x)) (sym same) ∙ inner.0 in
    let made : List ℕ → ℕ → SigInfo = λ r n. record { root = r; signing = drop (n + 4) bytes } in
    ap (λ (failing : Option SigFault). judge failing (signature_in bytes)) (
    first_failing-append_right (section_tests bytes) (info_tests (info_in bytes)) whole.0
    ∙ none)
    ∙ ap (λ (r : List ℕ). Ok (made r (info_end bytes))) (ap info_root (sym same) ∙ inner.1)
    ∙ ap (λ (n : ℕ). Ok (made root n)) whole.1

-- ---- the clauses

pub is_printed : (bytes : List ℕ) (r : Result SigInfo SigFault) → AreBytes bytes → GivesSigInfo r (signature_of bytes) → IfOk r (λ s. printed s.root s.signing ≡ bytes)
unfolding signature_of signature_tests signature_in
is_printed bytes (Ok s) fits e =
    let found = judged_ok _ _ s e in
    let both = passed_both (section_tests bytes) (info_tests (info_in bytes)) found.0 in
    subst (λ (x : SigInfo). printed x.root x.signing ≡ bytes) found.1 (blob_printed bytes fits (blob_holds bytes both.0) (info_holds (info_in bytes) both.1))
is_printed bytes (Err fault) fits e = tt

-- what is read isn't too long
pub is_short : (bytes : List ℕ) (r : Result SigInfo SigFault) → GivesSigInfo r (signature_of bytes) → OnOk r (length bytes ≤ 8096)
unfolding signature_of signature_tests
is_short bytes (Ok s) e =
    let found = judged_ok _ _ s e in
    let both = passed_both (section_tests bytes) (info_tests (info_in bytes)) found.0 in
    (blob_holds bytes both.0).small
is_short bytes (Err fault) e = tt

gives_again : (r judged read : Result SigInfo SigFault) → GivesSigInfo r judged → judged ≡ read → GivesSigInfo r read
gives_again r judged read g e = subst (λ (x : Result SigInfo SigFault). GivesSigInfo r x) e g

pub is_accepted : (bytes : List ℕ) (r : Result SigInfo SigFault) → GivesSigInfo r (signature_of bytes) → (root signing : List ℕ) → length root ≡ 32 → printed root signing ≡ bytes → length bytes ≤ 8096 → GivesSigInfo r (Ok (record { root = root; signing = signing }))
is_accepted bytes r g root signing e same small =
    let fits : length (printed root signing) ≤ 8096 = omega (arith, ap length same, small) in
    gives_again r (signature_of bytes) (Ok (record { root = root; signing = signing })) g (ap signature_of (sym same) ∙ blob_again root signing e fits)

first_of : (bytes : List ℕ) (fault : SigFault) → GivesSigInfo (Err fault) (signature_of bytes) → (fault ≡ OutOfMemory → ⊥) → signature_of bytes ≡ Err fault
first_of bytes OutOfMemory g ne = absurd (ne refl)
first_of bytes fault g ne = g

pub is_first : (bytes : List ℕ) (r : Result SigInfo SigFault) → GivesSigInfo r (signature_of bytes) → IfErr r (λ fault. (fault ≡ OutOfMemory → ⊥) → first_failing (signature_tests bytes) ≡ Some fault)
unfolding signature_of
is_first bytes (Ok s) g = tt
is_first bytes (Err fault) g = λ ne. judged_err _ _ fault (first_of bytes fault g ne)

-- ---- the writer's parts

-- the section is appended field by field
pub info_appended : (old root b1 b2 b3 b4 b5 : List ℕ) → length root ≡ 32 → b1 ≡ old ++ le_bytes 4 1 → b2 ≡ b1 ++ 12 ∷ [] → b3 ≡ b2 ++ le_bytes 4 0 → b4 ≡ b3 ++ le_bytes 4 32 → b5 ≡ b4 ++ root → b5 ≡ old ++ hash_info root
unfolding hash_info le_bytes
info_appended old root b1 b2 b3 b4 b5 len e1 e2 e3 e4 e5 = rw (e5, e4, e3, e2, e1, len) (simp append_assoc)

-- and so is the blob
pub blob_appended : (root signing b0 b1 b2 b3 b4 b5 : List ℕ) → length root ≡ 32 → b0 ≡ [] → b1 ≡ b0 ++ le_bytes 4 2 → b2 ≡ b1 ++ le_bytes 4 45 → b3 ≡ b2 ++ hash_info root → b4 ≡ b3 ++ le_bytes 4 (length signing) → b5 ≡ b4 ++ signing → b5 ≡ printed root signing
unfolding printed
blob_appended root signing b0 b1 b2 b3 b4 b5 len e0 e1 e2 e3 e4 e5 = rw (e5, e4, e3, e2, e1, e0, hash_info-length root len) refl

printed-length : (root signing : List ℕ) → length root ≡ 32 → length (printed root signing) ≡ 57 + length signing
unfolding printed
printed-length root signing e =
    let H = hash_info root in
    let A = le_bytes 4 2 in
    let B = le_bytes 4 (length H) in
    let C = le_bytes 4 (length signing) in
    omega (
      arith,
      hash_info-length root e,
      length-le_bytes 4 2,
      length-le_bytes 4 (length H),
      length-le_bytes 4 (length signing),
      length-append (A ++ B ++ H ++ C) signing,
      length-append (A ++ B ++ H) C,
      length-append (A ++ B) H,
      length-append A B,
    )

-- what is printed is read
pub read_again : (s : SigInfo) (blob : List ℕ) → length s.root ≡ 32 → length s.signing ≤ 8039 → blob ≡ printed s.root s.signing → signature_of blob ≡ Ok s
read_again s blob len short is = ap signature_of is ∙ blob_again s.root s.signing len (omega (arith, printed-length s.root s.signing len, short))

-- what is read is printed as it was
pub printed_again : (s : SigInfo) (blob bytes : List ℕ) → blob ≡ printed s.root s.signing → AreBytes bytes → signature_of bytes ≡ Ok s → blob ≡ bytes
printed_again s blob bytes is fits e =
    is ∙ is_printed bytes (Ok s) fits e
