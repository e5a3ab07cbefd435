-- The chain's function says what the relation says: each of its answers is one of the relation's, and the whole chain or the first fault
-- that the relation names is what it answers.
use Rattle.std.proofs.Common.{◌≡◌, ℕ, zero, suc, ◌+◌, ◌<◌, Bool, true, false, cond, ◌&&◌, eqb, ltb, List, [], ◌∷◌, ◌++◌, length, Some, None, Result, Ok, Err, refl, sym, ap, ◌∙◌, subst, arith, append_assoc}
use Rattle.std.specs.Prelude.{not, IfOk, IfErr}
use Rattle.std.proofs.lemmas.Bool.{eqb-false, le-ltb}
use Rattle.inc_bytes.specs.Tests.{first_failing}
use Rattle.inc_md.specs.declared.fault.ChainFault.{ChainFault}
use Rattle.inc_md.specs.declared.fault.ChainFault.TheVariants.{NoMap, TooMany}
use Rattle.inc_md.specs.declared.records.Records.{Records}
use Rattle.inc_md.specs.Record.{head_of}
use Rattle.inc_md.specs.Chain.{record_tests, Follow, records_of, unless_failing, places_from, places_along, records_if_mapped, chain_of}
use Rattle.inc_md.specs.Outcome.{IsChain, HasFault}
use Rattle.inc_md.proofs.Stepping.{append_none, mapped_places}
use Rattle.inc_md.proofs.Chains.{IsReadTo, ended, chain_found, map_missing, has_fault, not_at_record, one_more}
use Rattle.inc_md.proofs.ChainLaws.{places_follow}

-- a fault, and the record that has it
record StopsAt (bytes : List ℕ) (len : ℕ) (met : List ℕ) (at : ℕ) (fault : ChainFault) : Type 0 where
  places : List ℕ
  stop : ℕ
  follow : Follow bytes len met at places stop
  there : 0 < stop
  fails : first_failing (record_tests bytes len (met ++ places) stop) ≡ Some fault

positive : (at : ℕ) → eqb at 0 ≡ false → 0 < at
positive at z = let ne = eqb-false at 0 z in omega arith

stops_here : (bytes : List ℕ) (len : ℕ) (met : List ℕ) (at : ℕ) (fault : ChainFault) → eqb at 0 ≡ false → first_failing (record_tests bytes len met at) ≡ Some fault → StopsAt bytes len met at fault
stops_here bytes len met at fault z fails = record {
  places = [];
  stop = at;
  follow = refl;
  there = positive at z;
  fails = subst (λ (xs : List ℕ). first_failing (record_tests bytes len xs at) ≡ Some fault) (sym (append_none met)) fails;
}

stops_later : (bytes : List ℕ) (len : ℕ) (met : List ℕ) (at : ℕ) (fault : ChainFault) → eqb at 0 ≡ false → first_failing (record_tests bytes len met at) ≡ None
    → StopsAt bytes len (met ++ at ∷ []) (head_of bytes at).next fault → StopsAt bytes len met at fault
stops_later bytes len met at fault z passes rest = record {
  places = at ∷ rest.places;
  stop = rest.stop;
  follow = (refl, positive at z, passes, rest.follow);
  there = rest.there;
  fails = subst (λ (xs : List ℕ). first_failing (record_tests bytes len xs rest.stop) ≡ Some fault) (append_assoc met (at ∷ []) rest.places) rest.fails;
}

full : (bytes : List ℕ) (len : ℕ) (met : List ℕ) (at : ℕ) → length met ≡ 1024 → first_failing (record_tests bytes len met at) ≡ Some TooMany
full bytes len met at e = let many : ltb (length met) 1024 ≡ false = le-ltb _ _ (omega arith) in rw many refl

same_fault : (a b : ChainFault) → ◌≡◌ {A = Result (List ℕ) ChainFault} (Err a) (Err b) → a ≡ b
same_fault a b e = cc

never_err : (xs : List ℕ) (fault : ChainFault) → ◌≡◌ {A = Result (List ℕ) ChainFault} (Ok xs) (Err fault) → ⊥
never_err xs fault e = cc

sound_fault : (more : ℕ) (bytes : List ℕ) (len : ℕ) (met : List ℕ) (at : ℕ) (fault : ChainFault) → length met + more ≡ 1024 → places_from more bytes len met at ≡ Err fault → StopsAt bytes len met at fault
unfolding places_from
sound_fault zero bytes len met at fault count =
    elim (eqb at 0) as (λ b. eqb at 0 ≡ b → cond b (Ok met) (Err TooMany) ≡ Err fault → StopsAt bytes len met at fault) [
      | true ↦ λ z e. absurd (never_err met fault e)
      | false ↦ λ z e. stops_here bytes len met at fault z (full bytes len met at (omega arith) ∙ ap (λ (f : ChainFault). Some f) (same_fault TooMany fault e))
    ] refl
sound_fault (suc more) bytes len met at fault count =
    elim (eqb at 0) as (λ b. eqb at 0 ≡ b
    → cond b (Ok met) (unless_failing (first_failing (record_tests bytes len met at)) (places_from more bytes len (met ++ at ∷ []) (head_of bytes at).next)) ≡ Err fault
    → StopsAt bytes len met at fault) [
      | true ↦ λ z e. absurd (never_err met fault e)
      | false ↦ λ z.
          elim (first_failing (record_tests bytes len met at)) as (λ failing. first_failing (record_tests bytes len met at) ≡ failing
          → unless_failing failing (places_from more bytes len (met ++ at ∷ []) (head_of bytes at).next) ≡ Err fault → StopsAt bytes len met at fault) [
            | None ↦ λ passes e. stops_later bytes len met at fault z passes (sound_fault more bytes len (met ++ at ∷ []) (head_of bytes at).next fault (one_more met at more count) e)
            | Some found ↦ λ fails e. stops_here bytes len met at fault z (fails ∙ ap (λ (f : ChainFault). Some f) (same_fault found fault e))
          ] refl
    ] refl

-- the end of a chain, by its places and by what they say
same_end : (bytes places : List ℕ) (need_map : Bool) → ended need_map (records_of bytes places) ≡ records_if_mapped bytes need_map (Ok places)
same_end bytes places need_map = ap (λ (mapped : Bool). cond (need_map && not mapped) (Err NoMap) (Ok (records_of bytes places))) (mapped_places bytes places)

read_all : (bytes : List ℕ) (len first : ℕ) (places : List ℕ) → places_along bytes len first ≡ Ok places → IsReadTo bytes len first (records_of bytes places) 0
read_all bytes len first places e = record { places = places; front = places_follow bytes len first places e; said = refl }

pub chain_said : (bytes : List ℕ) (len first : ℕ) (need_map : Bool) → IfOk (chain_of bytes len first need_map) (λ records. IsChain bytes len first need_map records)
unfolding chain_of
chain_said bytes len first need_map =
    elim (places_along bytes len first) as (λ r. places_along bytes len first ≡ r → IfOk (records_if_mapped bytes need_map r) (λ records. IsChain bytes len first need_map records)) [
      | Ok places ↦ λ e. subst (λ (r : Result Records ChainFault). IfOk r (λ records. IsChain bytes len first need_map records)) (same_end bytes places need_map)
          (chain_found bytes len first need_map (records_of bytes places) (read_all bytes len first places e))
      | Err fault ↦ λ e. tt
    ] refl

fault_said : (bytes : List ℕ) (len first : ℕ) (need_map : Bool) (fault : ChainFault) → places_along bytes len first ≡ Err fault → HasFault bytes len first need_map fault
unfolding places_along
fault_said bytes len first need_map fault e =
    let at = sound_fault 1024 bytes len [] first fault refl e in
    has_fault bytes len first need_map fault (not_at_record bytes len at.places at.stop fault at.fails)
    (record { places = at.places; at = at.stop; front = at.follow; there = at.there; fails = at.fails })

pub chain_refused : (bytes : List ℕ) (len first : ℕ) (need_map : Bool) → IfErr (chain_of bytes len first need_map) (λ fault. HasFault bytes len first need_map fault)
unfolding chain_of
chain_refused bytes len first need_map =
    elim (places_along bytes len first) as (λ r. places_along bytes len first ≡ r → IfErr (records_if_mapped bytes need_map r) (λ fault. HasFault bytes len first need_map fault)) [
      | Ok places ↦ λ e. subst (λ (r : Result Records ChainFault). IfErr r (λ fault. HasFault bytes len first need_map fault)) (same_end bytes places need_map)
          (map_missing bytes len first need_map (records_of bytes places) (read_all bytes len first places e))
      | Err fault ↦ λ e. fault_said bytes len first need_map fault e
    ] refl
