-- The chain as a relation, and as a function.
use Rattle.std.proofs.Common.{◌≡◌, ℕ, zero, suc, ◌+◌, ◌<◌, ◌≤◌, Bool, true, false, cond, ◌&&◌, eqb, ltb, List, [], ◌∷◌, ◌++◌, length, Option, Some, None, Result, Ok, Err, refl, sym, ap, ◌∙◌, subst, arith, inl, inr, append_assoc}
use Rattle.std.specs.Prelude.{not, is_some, IfSome, IfOk, IfErr}
use Rattle.std.proofs.lemmas.List.{length-append}
use Rattle.std.proofs.lemmas.Bool.{ltb-true, le-ltb}
use Rattle.std.proofs.lemmas.Bool.Decides.{nat_tests}
use Rattle.inc_bytes.specs.Tests.{first_failing}
use Rattle.inc_bytes.proofs.Judging.{passed}
use Rattle.inc_md.specs.declared.fault.ChainFault.{ChainFault}
use Rattle.inc_md.specs.declared.fault.ChainFault.TheVariants.{Outside, NotRising, BadSize, TwoMaps, NoMap, TwoSignatures, TooMany, ReadFault, OutOfMemory}
use Rattle.inc_md.specs.declared.records.Records.{Records}
use Rattle.inc_md.specs.Record.{head_of, head_tests}
use Rattle.inc_md.specs.Chain.{record_tests, Follow, IsChainFront, records_of, places_from, places_along, records_if_mapped, chain_of}
use Rattle.inc_md.specs.Outcome.{GivesChain, GivesChainFault, IsChain, FailsAtRecord, HasFault}
use Rattle.inc_md.specs.Step.{tests_after, with_record, FailsBy}
use Rattle.inc_md.proofs.Stepping.{append_none, Follow-more, records_more, same_tests, mapped_places}

-- ---- from the relation to the function

few : (bytes : List ℕ) (len : ℕ) (met : List ℕ) (at : ℕ) → first_failing (record_tests bytes len met at) ≡ None → length met < 1024
few bytes len met at passes = ltb-true _ _ (passed (ltb (length met) 1024) _ TooMany passes).0

not_zero : (at : ℕ) → 0 < at → eqb at 0 ≡ false
not_zero at lt = grind (arith, nat_tests)

-- so many records may still come
pub one_more : (met : List ℕ) (at more : ℕ) → length met + suc more ≡ 1024 → length (met ++ at ∷ []) + more ≡ 1024
one_more met at more e = omega (arith, length-append met (at ∷ []))

Follow-few : (bytes : List ℕ) (len : ℕ) (met : List ℕ) (at : ℕ) (places : List ℕ) (next : ℕ) → length met ≤ 1024 → Follow bytes len met at places next → length (met ++ places) ≤ 1024
Follow-few bytes len met at [] next le follow = subst (λ (xs : List ℕ). length xs ≤ 1024) (sym (append_none met)) le
Follow-few bytes len met at (place ∷ places) next le follow =
    let lt = few bytes len met place follow.2 in
    let le' : length (met ++ place ∷ []) ≤ 1024 = omega (arith, length-append met (place ∷ [])) in
    subst (λ (xs : List ℕ). length xs ≤ 1024) (append_assoc met (place ∷ []) places) (Follow-few bytes len (met ++ place ∷ []) _ places next le' follow.3)

pub whole_chain : (more : ℕ) (bytes : List ℕ) (len : ℕ) (met : List ℕ) (at : ℕ) (places : List ℕ) → length met + more ≡ 1024
    → Follow bytes len met at places 0 → places_from more bytes len met at ≡ Ok (met ++ places)
unfolding places_from
whole_chain zero bytes len met at [] e follow = rw (follow, append_none) refl
whole_chain zero bytes len met at (place ∷ places) e follow = absurd (omega (arith, few bytes len met place follow.2))
whole_chain (suc more) bytes len met at [] e follow = rw (follow, append_none) refl
whole_chain (suc more) bytes len met at (place ∷ places) e follow =
    rw (follow.0, not_zero place follow.1, follow.2)
    (whole_chain more bytes len (met ++ place ∷ []) (head_of bytes place).next places (one_more met place more e) follow.3
    ∙ ap (λ (xs : List ℕ). Ok xs) (append_assoc met (place ∷ []) places))

pub broken_chain : (more : ℕ) (bytes : List ℕ) (len : ℕ) (met : List ℕ) (at : ℕ) (places : List ℕ) (next : ℕ) (fault : ChainFault) → length met + more ≡ 1024
    → Follow bytes len met at places next → 0 < next → first_failing (record_tests bytes len (met ++ places) next) ≡ Some fault
    → places_from more bytes len met at ≡ Err fault
unfolding places_from
broken_chain zero bytes len met at [] next fault e follow there fails =
    let full : ltb (length (met ++ [])) 1024 ≡ false = le-ltb _ _ (omega (arith, length-append met [])) in
    let many : Some TooMany ≡ Some fault = rw full at fails in
    let is : TooMany ≡ fault = cc in
    rw (follow, not_zero next there, is) refl
broken_chain zero bytes len met at (place ∷ places) next fault e follow there fails = absurd (omega (arith, few bytes len met place follow.2))
broken_chain (suc more) bytes len met at [] next fault e follow there fails =
    let fails' = rw append_none at fails in
    rw (follow, not_zero next there, fails') refl
broken_chain (suc more) bytes len met at (place ∷ places) next fault e follow there fails =
    rw (follow.0, not_zero place follow.1, follow.2)
    (broken_chain more bytes len (met ++ place ∷ []) (head_of bytes place).next places next fault (one_more met place more e) follow.3 there
    (subst (λ (xs : List ℕ). first_failing (record_tests bytes len xs next) ≡ Some fault) (sym (append_assoc met (place ∷ []) places)) fails))

-- ---- a walk, as far as it has come

pub record IsReadTo (bytes : List ℕ) (len first : ℕ) (records : Records) (at : ℕ) : Type 0 where
  pub places : List ℕ
  pub front : IsChainFront bytes len first places at
  pub said : records ≡ records_of bytes places

-- the answer at the end of a chain
abbrev pub ended : Bool → Records → Result Records ChainFault
ended need_map records = cond (need_map && not (is_some records.map)) (Err NoMap) (Ok records)

chain_at_end : (bytes : List ℕ) (len first : ℕ) (need_map : Bool) (records : Records) → IsReadTo bytes len first records 0 → chain_of bytes len first need_map ≡ ended need_map records
unfolding chain_of places_along
chain_at_end bytes len first need_map records is =
    ap (records_if_mapped bytes need_map) (whole_chain 1024 bytes len [] first is.places refl is.front)
    ∙ ap (λ (mapped : Bool). cond (need_map && not mapped) (Err NoMap) (Ok (records_of bytes is.places))) (sym (mapped_places bytes is.places))
    ∙ ap (ended need_map) (sym is.said)

chain_at_fault : (bytes : List ℕ) (len first : ℕ) (need_map : Bool) (places : List ℕ) (at : ℕ) (fault : ChainFault) → IsChainFront bytes len first places at → 0 < at
    → first_failing (record_tests bytes len places at) ≡ Some fault → chain_of bytes len first need_map ≡ Err fault
unfolding chain_of places_along
chain_at_fault bytes len first need_map places at fault front there fails =
    ap (records_if_mapped bytes need_map) (broken_chain 1024 bytes len [] first places at fault refl front there fails)

-- ---- what it may answer

gives_fault : (fault : ChainFault) (wanted : Result Records ChainFault) → wanted ≡ Err fault → GivesChainFault fault wanted
gives_fault (Outside at) wanted e = e
gives_fault (NotRising at next) wanted e = e
gives_fault (BadSize at) wanted e = e
gives_fault (TwoMaps at) wanted e = e
gives_fault NoMap wanted e = e
gives_fault (TwoSignatures at) wanted e = e
gives_fault TooMany wanted e = e
gives_fault ReadFault wanted e = tt
gives_fault OutOfMemory wanted e = tt

gives_same : (result wanted : Result Records ChainFault) → wanted ≡ result → GivesChain result wanted
gives_same (Ok records) wanted e = e
gives_same (Err fault) wanted e = gives_fault fault wanted e

pub has_fault : (bytes : List ℕ) (len first : ℕ) (need_map : Bool) (fault : ChainFault) → (fault ≡ NoMap → ⊥) → FailsAtRecord bytes len first fault → HasFault bytes len first need_map fault
has_fault bytes len first need_map (Outside at) other fails = fails
has_fault bytes len first need_map (NotRising at next) other fails = fails
has_fault bytes len first need_map (BadSize at) other fails = fails
has_fault bytes len first need_map (TwoMaps at) other fails = fails
has_fault bytes len first need_map NoMap other fails = absurd (other refl)
has_fault bytes len first need_map (TwoSignatures at) other fails = fails
has_fault bytes len first need_map TooMany other fails = fails
has_fault bytes len first need_map ReadFault other fails = tt
has_fault bytes len first need_map OutOfMemory other fails = tt

-- no test has this fault
NoneHas : ChainFault → List (Bool × ChainFault) → Type 0
NoneHas fault [] = Unit {0}
NoneHas fault (test ∷ tests) = (test.1 ≡ fault → ⊥) × NoneHas fault tests

never : (fault : ChainFault) (tests : List (Bool × ChainFault)) → NoneHas fault tests → first_failing tests ≡ Some fault → ⊥
unfolding NoneHas
never fault [] none e = cc
never fault ((true, other) ∷ tests) none e = never fault tests none.1 e
never fault ((false, other) ∷ tests) none e = none.0 cc

pub not_at_record : (bytes : List ℕ) (len : ℕ) (places : List ℕ) (at : ℕ) (fault : ChainFault) → first_failing (record_tests bytes len places at) ≡ Some fault → fault ≡ NoMap → ⊥
unfolding NoneHas head_tests
not_at_record bytes len places at fault fails is =
    never NoMap (record_tests bytes len places at) (λ e. cc, (λ e. cc, (λ e. cc, (λ e. cc, (λ e. cc, (λ e. cc, (λ e. cc, tt))))))) (fails ∙ ap (λ (f : ChainFault). Some f) is)

-- ---- the same of a file that may tell its bytes

pub read_start : (told : Option (List ℕ)) (len first : ℕ) (records : Records) → records ≡ record { map = None; signature = None; status = None; spans = []; last = 0 }
    → IfSome told (λ bytes. IsReadTo bytes len first records first)
unfolding records_of
read_start None len first records e = tt
read_start (Some bytes) len first records e = record { places = []; front = refl; said = e }

read_on : (bytes : List ℕ) (len first at next : ℕ) (records after : Records) → 0 < at → IsReadTo bytes len first records at
    → first_failing (tests_after records bytes len at) ≡ None → next ≡ (head_of bytes at).next → after ≡ with_record bytes at records
    → IsReadTo bytes len first after next
read_on bytes len first at next records after there is passes next-is said =
    let told_passes : first_failing (tests_after (records_of bytes is.places) bytes len at) ≡ None = subst (λ (r : Records). first_failing (tests_after r bytes len at) ≡ None) is.said passes in
    let passes' : first_failing (record_tests bytes len is.places at) ≡ None = subst (λ (tests : List (Bool × ChainFault)). first_failing tests ≡ None) (same_tests bytes len is.places at) told_passes in
    record {
      places = is.places ++ at ∷ [];
      front = subst (λ (n : ℕ). IsChainFront bytes len first (is.places ++ at ∷ []) n) (sym next-is) (Follow-more bytes len [] first is.places at is.front there passes');
      said = said ∙ ap (with_record bytes at) is.said ∙ records_more bytes len is.places at told_passes;
    }

pub read_more : (told : Option (List ℕ)) (len first at next : ℕ) (records after : Records) → 0 < at
    → IfSome told (λ bytes. IsReadTo bytes len first records at)
    → IfSome told (λ bytes. first_failing (tests_after records bytes len at) ≡ None)
    → IfSome told (λ bytes. next ≡ (head_of bytes at).next)
    → IfSome told (λ bytes. after ≡ with_record bytes at records)
    → IfSome told (λ bytes. IsReadTo bytes len first after next)
read_more None len first at next records after there is passes next-is said = tt
read_more (Some bytes) len first at next records after there is passes next-is said = read_on bytes len first at next records after there is passes next-is said

-- the record here fails a test
failed_at : (bytes : List ℕ) (len first at : ℕ) (records : Records) (fault : ChainFault) → 0 < at → IsReadTo bytes len first records at
    → first_failing (tests_after records bytes len at) ≡ Some fault → FailsAtRecord bytes len first fault
failed_at bytes len first at records fault there is fails =
    record {
      places = is.places;
      at = at;
      front = is.front;
      there = there;
      fails = subst (λ (tests : List (Bool × ChainFault)). first_failing tests ≡ Some fault) (same_tests bytes len is.places at)
          (subst (λ (r : Records). first_failing (tests_after r bytes len at) ≡ Some fault) is.said fails);
    }

pub fault_given : (told : Option (List ℕ)) (len first at : ℕ) (need_map : Bool) (records : Records) (fault : ChainFault) → 0 < at
    → IfSome told (λ bytes. IsReadTo bytes len first records at)
    → IfSome told (λ bytes. FailsBy (first_failing (tests_after records bytes len at)) fault)
    → IfSome told (λ bytes. GivesChainFault fault (chain_of bytes len first need_map))
fault_given None len first at need_map records fault there is fails = tt
fault_given (Some bytes) len first at need_map records fault there is fails =
    elim fails [
      | inl failing ↦ let at_record = failed_at bytes len first at records fault there is failing in
          gives_fault fault _ (chain_at_fault bytes len first need_map at_record.places at_record.at fault at_record.front at_record.there at_record.fails)
      | inr free ↦ elim free [
        | inl e ↦ subst (λ (f : ChainFault). GivesChainFault f (chain_of bytes len first need_map)) (sym e) tt
        | inr e ↦ subst (λ (f : ChainFault). GivesChainFault f (chain_of bytes len first need_map)) (sym e) tt
      ]
    ]

pub fault_found : (told : Option (List ℕ)) (len first at : ℕ) (need_map : Bool) (records : Records) (fault : ChainFault) → 0 < at
    → IfSome told (λ bytes. IsReadTo bytes len first records at)
    → IfSome told (λ bytes. FailsBy (first_failing (tests_after records bytes len at)) fault)
    → IfSome told (λ bytes. HasFault bytes len first need_map fault)
fault_found None len first at need_map records fault there is fails = tt
fault_found (Some bytes) len first at need_map records fault there is fails =
    elim fails [
      | inl failing ↦ let at_record = failed_at bytes len first at records fault there is failing in
          has_fault bytes len first need_map fault (not_at_record bytes len at_record.places at_record.at fault at_record.fails) at_record
      | inr free ↦ elim free [
        | inl e ↦ subst (λ (f : ChainFault). HasFault bytes len first need_map f) (sym e) tt
        | inr e ↦ subst (λ (f : ChainFault). HasFault bytes len first need_map f) (sym e) tt
      ]
    ]

-- the chain ends here
at_end : (bytes : List ℕ) (len first at : ℕ) (records : Records) → at ≡ 0 → IsReadTo bytes len first records at → IsReadTo bytes len first records 0
at_end bytes len first at records e is = subst (λ (n : ℕ). IsReadTo bytes len first records n) e is

pub end_given : (told : Option (List ℕ)) (len first at : ℕ) (need_map : Bool) (records : Records) (result : Result Records ChainFault) → at ≡ 0
    → result ≡ ended need_map records
    → IfSome told (λ bytes. IsReadTo bytes len first records at)
    → IfSome told (λ bytes. GivesChain result (chain_of bytes len first need_map))
end_given None len first at need_map records result e answer is = tt
end_given (Some bytes) len first at need_map records result e answer is =
    gives_same result _ (chain_at_end bytes len first need_map records (at_end bytes len first at records e is) ∙ sym answer)

has_one : (needed mapped : Bool) → needed && not mapped ≡ false → needed ≡ true → mapped ≡ true
has_one true true e h = refl
has_one true false e h = cc
has_one false mapped e h = absurd cc

has_none : (needed mapped : Bool) → needed && not mapped ≡ true → (needed ≡ true) × (mapped ≡ false)
has_none true true e = absurd cc
has_none true false e = (refl, refl)
has_none false mapped e = absurd cc

is_none_found : (found : Option ℕ) → is_some found ≡ false → found ≡ None
is_none_found None e = refl
is_none_found (Some place) e = absurd cc

pub chain_found : (bytes : List ℕ) (len first : ℕ) (need_map : Bool) (records : Records) → IsReadTo bytes len first records 0
    → IfOk (ended need_map records) (λ said. IsChain bytes len first need_map said)
chain_found bytes len first need_map records is =
    elim (need_map && not (is_some records.map)) as (λ b. need_map && not (is_some records.map) ≡ b → IfOk (cond b (Err NoMap) (Ok records)) (λ said. IsChain bytes len first need_map said)) [
      | true ↦ λ e. tt
      | false ↦ λ e. record {
        places = is.places;
        whole = is.front;
        few = Follow-few bytes len [] first is.places 0 (omega arith) is.front;
        said = is.said;
        mapped = has_one need_map (is_some records.map) e;
      }
    ] refl

pub map_missing : (bytes : List ℕ) (len first : ℕ) (need_map : Bool) (records : Records) → IsReadTo bytes len first records 0
    → IfErr (ended need_map records) (λ fault. HasFault bytes len first need_map fault)
map_missing bytes len first need_map records is =
    elim (need_map && not (is_some records.map)) as (λ b. need_map && not (is_some records.map) ≡ b → IfErr (cond b (Err NoMap) (Ok records)) (λ fault. HasFault bytes len first need_map fault)) [
      | true ↦ λ e.
          let none = has_none need_map (is_some records.map) e in
          record {
            places = is.places;
            whole = is.front;
            needed = none.0;
            none = is_none_found _ (sym (mapped_places bytes is.places) ∙ ap (λ (r : Records). is_some r.map) (sym is.said) ∙ none.1);
          }
      | false ↦ λ e. tt
    ] refl

pub end_chain : (told : Option (List ℕ)) (len first at : ℕ) (need_map : Bool) (records : Records) (result : Result Records ChainFault) → at ≡ 0
    → result ≡ ended need_map records
    → IfSome told (λ bytes. IsReadTo bytes len first records at)
    → IfSome told (λ bytes. IfOk result (λ said. IsChain bytes len first need_map said))
end_chain None len first at need_map records result e answer is = tt
end_chain (Some bytes) len first at need_map records result e answer is =
    subst (λ (r : Result Records ChainFault). IfOk r (λ said. IsChain bytes len first need_map said)) (sym answer) (chain_found bytes len first need_map records (at_end bytes len first at records e is))

pub end_fault : (told : Option (List ℕ)) (len first at : ℕ) (need_map : Bool) (records : Records) (result : Result Records ChainFault) → at ≡ 0
    → result ≡ ended need_map records
    → IfSome told (λ bytes. IsReadTo bytes len first records at)
    → IfSome told (λ bytes. IfErr result (λ fault. HasFault bytes len first need_map fault))
end_fault None len first at need_map records result e answer is = tt
end_fault (Some bytes) len first at need_map records result e answer is =
    subst (λ (r : Result Records ChainFault). IfErr r (λ fault. HasFault bytes len first need_map fault)) (sym answer) (map_missing bytes len first need_map records (at_end bytes len first at records e is))
