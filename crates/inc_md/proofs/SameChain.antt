-- A file that agrees with another on the bytes that its chain rests on, and is no shorter, has the same chain.
use Rattle.std.proofs.Common.{◌≡◌, ◌⊎◌, ℕ, ◌+◌, ◌<◌, ◌≤◌, Bool, true, false, cond, ◌&&◌, ◌||◌, eqb, leb, ltb, List, [], ◌∷◌, ◌++◌, length, Option, Some, None, inl, inr, refl, sym, ap, ◌∙◌, subst, arith}
use Rattle.std.specs.Prelude.{not, is_some, IsSome, map, option_map, slice_index}
use Rattle.std.specs.List.{list_any}
use Rattle.std.proofs.lemmas.Bool.Decides.{nat_tests}
use Rattle.inc_bytes.specs.declared.span.Span.{Span}
use Rattle.inc_bytes.specs.Tests.{first_failing}
use Rattle.inc_md.specs.declared.records.Records.{Records}
use Rattle.inc_md.specs.declared.records.MapRecord.{MapRecord}
use Rattle.inc_md.specs.declared.records.SigRecord.{SigRecord}
use Rattle.inc_md.specs.declared.records.StatusRecord.{StatusRecord}
use Rattle.inc_md.specs.Record.{head_of, is_size, map_fields, sig_fields, status_fields, span_of}
use Rattle.inc_md.specs.Chain.{first_of_kind, record_tests, Follow, IsChainFront, records_of}
use Rattle.inc_md.specs.Outcome.{IsChain}
use Rattle.inc_md.specs.Staying.{in_span, in_counts, AgreesOnChain, IsSameChain, HasSameChain}
use Rattle.inc_md.proofs.ChainLaws.{Passes, parts, SameBytes, SameHeads, same_within, first_same, follow_same, spans_same, map_same, sig_same}

-- ---- the records of a chain

abbrev In : ℕ → List ℕ → Type 0
In p [] = ⊥
In p (q ∷ qs) = (p ≡ q) ⊎ In p qs

record IsPlaced (bytes : List ℕ) (len p : ℕ) : Type 0 where
  begins : p + 23 ≤ len
  ends : p + (head_of bytes p).size ≤ len
  sized : is_size (head_of bytes p).kind (head_of bytes p).size ≡ true

passes_of : (bytes : List ℕ) (len : ℕ) (met : List ℕ) (at : ℕ) → first_failing (record_tests bytes len met at) ≡ None
    → Passes (length met) (is_some (first_of_kind bytes 1 met)) (is_some (first_of_kind bytes 3 met)) len at (head_of bytes at)
passes_of bytes len met at passes = parts (length met) (is_some (first_of_kind bytes 1 met)) (is_some (first_of_kind bytes 3 met)) len at (head_of bytes at) passes

placed : (bytes : List ℕ) (len : ℕ) (met : List ℕ) (at : ℕ) (places : List ℕ) (next : ℕ) → Follow bytes len met at places next → (p : ℕ) → In p places → IsPlaced bytes len p
placed bytes len met at [] next follow p among = absurd among
placed bytes len met at (place ∷ places) next follow p (inl e) =
    let t = passes_of bytes len met place follow.2 in
    subst (λ (q : ℕ). IsPlaced bytes len q) (sym e) (record { begins = t.begins; ends = t.ends; sized = t.sized })
placed bytes len met at (place ∷ places) next follow p (inr among) = placed bytes len (met ++ place ∷ []) (head_of bytes place).next places next follow.3 p among

-- a record of any type has at least 23 bytes
least : (kind size : ℕ) → is_size kind size ≡ true → 23 ≤ size
least kind size e = grind (arith, nat_tests)

map_size : (kind size : ℕ) → eqb kind 1 ≡ true → is_size kind size ≡ true → size ≡ 35
map_size kind size k e = grind (arith, nat_tests)

sig_size : (kind size : ℕ) → eqb kind 3 ≡ true → is_size kind size ≡ true → size ≡ 47
sig_size kind size k e = grind (arith, nat_tests)

status_size : (kind size : ℕ) → eqb kind 4 ≡ true → is_size kind size ≡ true → size ≡ 55
status_size kind size k e = grind (arith, nat_tests)

-- ---- they lie one after the other

there : (bytes : List ℕ) (len : ℕ) (met : List ℕ) (at : ℕ) (places : List ℕ) (next : ℕ) → Follow bytes len met at places next → (q : ℕ) → In q places → 0 < at
there bytes len met at [] next follow q among = absurd among
there bytes len met at (place ∷ places) next follow q among = let e = follow.0 in let lt = follow.1 in omega arith

rises_over : (at size next : ℕ) → 0 < next → (eqb next 0 || leb (at + size) next) ≡ true → at + size ≤ next
rises_over at size next lt rises = grind (arith, nat_tests)

over : (bytes : List ℕ) (len : ℕ) (met : List ℕ) (at : ℕ) (places : List ℕ) (next : ℕ) → Follow bytes len met at places next → (q : ℕ) → In q places → at ≤ q
over bytes len met at [] next follow q among = absurd among
over bytes len met at (place ∷ places) next follow q (inl e) = let same = follow.0 in omega arith
over bytes len met at (place ∷ places) next follow q (inr among) =
    let same = follow.0 in
    let t = passes_of bytes len met place follow.2 in
    let later = over bytes len (met ++ place ∷ []) (head_of bytes place).next places next follow.3 q among in
    let gap = rises_over place (head_of bytes place).size (head_of bytes place).next (there bytes len (met ++ place ∷ []) (head_of bytes place).next places next follow.3 q among) t.rises in
    omega (arith, same, later, gap)

after_first : (bytes : List ℕ) (len : ℕ) (met : List ℕ) (at place : ℕ) (places : List ℕ) (next : ℕ) → Follow bytes len met at (place ∷ places) next
    → (q : ℕ) → In q places → place + (head_of bytes place).size ≤ q
after_first bytes len met at place places next follow q among =
    let t = passes_of bytes len met place follow.2 in
    let later = over bytes len (met ++ place ∷ []) (head_of bytes place).next places next follow.3 q among in
    let gap = rises_over place (head_of bytes place).size (head_of bytes place).next (there bytes len (met ++ place ∷ []) (head_of bytes place).next places next follow.3 q among) t.rises in
    omega (arith, later, gap)

abbrev Apart : List ℕ → ℕ → ℕ → Type 0
Apart bytes p q = (p ≡ q) ⊎ ((p + (head_of bytes p).size ≤ q) ⊎ (q + (head_of bytes q).size ≤ p))

ordered : (bytes : List ℕ) (len : ℕ) (met : List ℕ) (at : ℕ) (places : List ℕ) (next : ℕ) → Follow bytes len met at places next
    → (p q : ℕ) → In p places → In q places → Apart bytes p q
ordered bytes len met at [] next follow p q p_in q_in = absurd p_in
ordered bytes len met at (place ∷ places) next follow p q (inl p_is) (inl q_is) = inl (p_is ∙ sym q_is)
ordered bytes len met at (place ∷ places) next follow p q (inl p_is) (inr q_in) =
    subst (λ (r : ℕ). Apart bytes r q) (sym p_is) (inr (inl (after_first bytes len met at place places next follow q q_in)))
ordered bytes len met at (place ∷ places) next follow p q (inr p_in) (inl q_is) =
    subst (λ (r : ℕ). Apart bytes p r) (sym q_is) (inr (inr (after_first bytes len met at place places next follow p p_in)))
ordered bytes len met at (place ∷ places) next follow p q (inr p_in) (inr q_in) = ordered bytes len (met ++ place ∷ []) (head_of bytes place).next places next follow.3 p q p_in q_in

-- ---- the record of a type

record IsFound (bytes : List ℕ) (kind : ℕ) (places : List ℕ) (s : ℕ) : Type 0 where
  among : In s places
  kind_is : eqb (head_of bytes s).kind kind ≡ true

found : (bytes : List ℕ) (kind : ℕ) (places : List ℕ) (s : ℕ) → first_of_kind bytes kind places ≡ Some s → IsFound bytes kind places s
found bytes kind [] s = λ e. absurd cc
found bytes kind (place ∷ places) s =
    elim (eqb (head_of bytes place).kind kind) as (λ b. eqb (head_of bytes place).kind kind ≡ b → cond b (Some place) (first_of_kind bytes kind places) ≡ Some s → IsFound bytes kind (place ∷ places) s) [
      | true ↦ λ is e. let same : place ≡ s = cc in record { among = inl (sym same); kind_is = subst (λ (q : ℕ). eqb (head_of bytes q).kind kind ≡ true) same is }
      | false ↦ λ is e. let rest = found bytes kind places s e in record { among = inr rest.among; kind_is = rest.kind_is }
    ] refl

-- ---- a record's own bytes are none of the counts, but for those of the status record

abbrev status_in : List ℕ → Option ℕ → Option StatusRecord
status_in bytes found = option_map (λ place. status_fields bytes (place + 23)) found

own_place : (p s j : ℕ) → p ≡ s → j < p + 23 → (leb (s + 23) j && ltb j (s + 23 + 8)) ≡ false
own_place p s j e lt = grind (arith, nat_tests)

below : (p size s j : ℕ) → p + size ≤ s → j < p + size → (leb (s + 23) j && ltb j (s + 23 + 8)) ≡ false
below p size s j le lt = grind (arith, nat_tests)

above : (p size s j : ℕ) → s + size ≤ p → size ≡ 55 → p ≤ j → (leb (s + 23) j && ltb j (s + 23 + 8)) ≡ false
above p size s j le sized ge = grind (arith, nat_tests)

not_status : (bytes : List ℕ) (p s : ℕ) → p ≡ s → eqb (head_of bytes s).kind 4 ≡ true → eqb (head_of bytes p).kind 4 ≡ false → ⊥
not_status bytes p s e is other = let moved = subst (λ (q : ℕ). eqb (head_of bytes q).kind 4 ≡ true) (sym e) is in cc

spares : (bytes : List ℕ) (len first : ℕ) (places : List ℕ) → IsChainFront bytes len first places 0 → (s : Option ℕ) → first_of_kind bytes 4 places ≡ s
    → (p j : ℕ) → In p places → p ≤ j → j < p + (head_of bytes p).size → (j < p + 23) ⊎ (eqb (head_of bytes p).kind 4 ≡ false)
    → in_counts (status_in bytes s) j ≡ false
spares bytes len first places front None e p j among ge lt where_ = refl
spares bytes len first places front (Some s) e p j among ge lt where_ =
    let f = found bytes 4 places s e in
    let s_placed = placed bytes len [] first places 0 front s f.among in
    elim (ordered bytes len [] first places 0 front p s among f.among) [
      | inl same ↦ elim where_ [
        | inl head ↦ own_place p s j same head
        | inr other ↦ absurd (not_status bytes p s same f.kind_is other)
      ]
      | inr (inl lower) ↦ below p (head_of bytes p).size s j lower lt
      | inr (inr higher) ↦ above p (head_of bytes s).size s j higher (status_size _ _ f.kind_is s_placed.sized) ge
    ]

-- ---- they are bytes that the chain rests on

within : (p size j : ℕ) → p ≤ j → j < p + size → (leb p j && ltb j (p + size)) ≡ true
within p size j ge lt = grind (arith, nat_tests)

or_true : (b : Bool) → (b || true) ≡ true
or_true true = refl
or_true false = refl

any_span : (bytes : List ℕ) (places : List ℕ) (p j : ℕ) → In p places → p ≤ j → j < p + (head_of bytes p).size → list_any (in_span j) (map (span_of bytes) places) ≡ true
any_span bytes [] p j among ge lt = absurd among
any_span bytes (place ∷ places) p j (inl e) ge lt =
    let here = within p (head_of bytes p).size j ge lt in
    let there : in_span j (span_of bytes place) ≡ true = subst (λ (q : ℕ). in_span j (span_of bytes q) ≡ true) e here in
    ap (λ (b : Bool). b || list_any (in_span j) (map (span_of bytes) places)) there
any_span bytes (place ∷ places) p j (inr among) ge lt =
    let rest = any_span bytes places p j among ge lt in
    ap (λ (b : Bool). in_span j (span_of bytes place) || b) rest ∙ or_true (in_span j (span_of bytes place))

both : (a b : Bool) → a ≡ true → b ≡ false → (a && not b) ≡ true
both a b e f = cc

-- a place in a record, of its first 23 bytes or where it is no status record
same_at : (a b : List ℕ) (len first : ℕ) (places : List ℕ) → IsChainFront a len first places 0 → AgreesOnChain (records_of a places) a b
    → (p j : ℕ) → In p places → p ≤ j → j < p + (head_of a p).size → (j < p + 23) ⊎ (eqb (head_of a p).kind 4 ≡ false) → slice_index a j ≡ slice_index b j
unfolding records_of
same_at a b len first places front agrees p j among ge lt where_ =
    agrees j (both _ _ (any_span a places p j among ge lt) (spares a len first places front (first_of_kind a 4 places) refl p j among ge lt where_))

-- ---- the chain of the other file

heads_of : (a b : List ℕ) (places : List ℕ) → ((p : ℕ) → In p places → SameBytes a b p 15) → SameHeads a b places
heads_of a b [] each = tt
heads_of a b (place ∷ places) each = (each place (inl refl), heads_of a b places (λ p among. each p (inr among)))

-- of a record that isn't the status record all bytes are the same, and of each record the first 23
first_bytes : (a b : List ℕ) (len first : ℕ) (places : List ℕ) → IsChainFront a len first places 0 → AgreesOnChain (records_of a places) a b
    → (p : ℕ) → In p places → SameBytes a b p 23
first_bytes a b len first places front agrees p among j lt =
    let is = placed a len [] first places 0 front p among in
    let least_size : 23 ≤ (head_of a p).size = least (head_of a p).kind _ is.sized in
    same_at a b len first places front agrees p (p + j) among (omega arith) (omega arith) (inl (omega arith))

all_bytes : (a b : List ℕ) (len first : ℕ) (places : List ℕ) → IsChainFront a len first places 0 → AgreesOnChain (records_of a places) a b
    → (p : ℕ) → In p places → eqb (head_of a p).kind 4 ≡ false → SameBytes a b p (head_of a p).size
all_bytes a b len first places front agrees p among other j lt =
    same_at a b len first places front agrees p (p + j) among (omega arith) (omega arith) (inr other)

other_kind : (kind wanted : ℕ) → eqb kind wanted ≡ true → eqb wanted 4 ≡ false → eqb kind 4 ≡ false
other_kind kind wanted e ne = grind (arith, nat_tests)

map_stays : (a b : List ℕ) (len first : ℕ) (places : List ℕ) → IsChainFront a len first places 0 → AgreesOnChain (records_of a places) a b → len ≤ length a → len ≤ length b
    → (s : Option ℕ) → first_of_kind a 1 places ≡ s → option_map (λ place. map_fields b (place + 23)) s ≡ option_map (λ place. map_fields a (place + 23)) s
map_stays a b len first places front agrees fits_a fits_b None e = refl
map_stays a b len first places front agrees fits_a fits_b (Some s) e =
    let f = found a 1 places s e in
    let is = placed a len [] first places 0 front s f.among in
    let size = map_size _ _ f.kind_is is.sized in
    let all = all_bytes a b len first places front agrees s f.among (other_kind _ 1 f.kind_is refl) in
    let ends = is.ends in
    let fields = map_same a b (s + 23) (omega (arith, size, ends, fits_a)) (omega (arith, size, ends, fits_b)) (same_within a b s (head_of a s).size 23 12 all (omega (arith, size))) in
    ap (λ (m : MapRecord). Some m) (sym fields)

signature_stays : (a b : List ℕ) (len first : ℕ) (places : List ℕ) → IsChainFront a len first places 0 → AgreesOnChain (records_of a places) a b → len ≤ length a → len ≤ length b
    → (s : Option ℕ) → first_of_kind a 3 places ≡ s → option_map (λ place. sig_fields b (place + 23)) s ≡ option_map (λ place. sig_fields a (place + 23)) s
signature_stays a b len first places front agrees fits_a fits_b None e = refl
signature_stays a b len first places front agrees fits_a fits_b (Some s) e =
    let f = found a 3 places s e in
    let is = placed a len [] first places 0 front s f.among in
    let size = sig_size _ _ f.kind_is is.sized in
    let all = all_bytes a b len first places front agrees s f.among (other_kind _ 3 f.kind_is refl) in
    let ends = is.ends in
    let fields = sig_same a b (s + 23) (omega (arith, size, ends, fits_a)) (omega (arith, size, ends, fits_b)) (same_within a b s (head_of a s).size 23 24 all (omega (arith, size))) in
    ap (λ (m : SigRecord). Some m) (sym fields)

status_place : (a b : List ℕ) (s : Option ℕ) → option_map (λ status. status.at) (status_in b s) ≡ option_map (λ status. status.at) (status_in a s)
status_place a b None = refl
status_place a b (Some s) = refl

is_some_map : (b : List ℕ) (s : Option ℕ) (old : Option MapRecord) → IsSome old → old ≡ option_map (λ place. map_fields b (place + 23)) s → IsSome (option_map (λ place. map_fields b (place + 23)) s)
is_some_map b s old some e = subst (λ (m : Option MapRecord). IsSome m) e some

same_records : (a b : List ℕ) (len first : ℕ) (places : List ℕ) → IsChainFront a len first places 0 → AgreesOnChain (records_of a places) a b → len ≤ length a → len ≤ length b
    → SameHeads a b places → IsSameChain (records_of a places) (records_of b places)
unfolding records_of
same_records a b len first places front agrees fits_a fits_b heads = record {
  map = ap (λ (s : Option ℕ). option_map (λ place. map_fields b (place + 23)) s) (sym (first_same a b 1 places heads))
      ∙ map_stays a b len first places front agrees fits_a fits_b (first_of_kind a 1 places) refl;
  signature = ap (λ (s : Option ℕ). option_map (λ place. sig_fields b (place + 23)) s) (sym (first_same a b 3 places heads))
      ∙ signature_stays a b len first places front agrees fits_a fits_b (first_of_kind a 3 places) refl;
  status = ap (λ (s : Option ℕ). option_map (λ status. status.at) (status_in b s)) (sym (first_same a b 4 places heads))
      ∙ status_place a b (first_of_kind a 4 places);
  spans = sym (spans_same a b len [] first places 0 fits_a fits_b tt heads front);
  last = refl;
}

mapped_too : (need_map : Bool) (old new : Records) → IsSameChain old new → (need_map ≡ true → IsSome old.map) → need_map ≡ true → IsSome new.map
mapped_too need_map old new same mapped e = subst (λ (m : Option MapRecord). IsSome m) (sym same.map) (mapped e)

chain_too : (a b : List ℕ) (len more first : ℕ) (need_map : Bool) (places : List ℕ) → len ≤ more → len ≤ length a → more ≤ length b
    → IsChainFront a len first places 0 → length places ≤ 1024 → (need_map ≡ true → IsSome (records_of a places).map) → AgreesOnChain (records_of a places) a b
    → HasSameChain b more first need_map (records_of a places)
chain_too a b len more first need_map places le fits_a fits_b front few mapped agrees =
    let heads : SameHeads a b places = heads_of a b places (λ p among j lt. first_bytes a b len first places front agrees p among j (omega arith)) in
    let same = same_records a b len first places front agrees fits_a (omega arith) heads in
    record {
      found = records_of b places;
      chain = record {
        places = places;
        whole = follow_same a b len more [] first places 0 le fits_a fits_b tt heads front;
        few = few;
        said = refl;
        mapped = mapped_too need_map (records_of a places) (records_of b places) same mapped;
      };
      same = same;
    }

pub chain_stays : (a b : List ℕ) (len more first : ℕ) (need_map : Bool) (records : Records) → len ≤ more → len ≤ length a → more ≤ length b
    → IsChain a len first need_map records → AgreesOnChain records a b → HasSameChain b more first need_map records
chain_stays a b len more first need_map records le fits_a fits_b chain agrees =
    let said = chain.said in
    let agrees' = subst (λ (r : Records). AgreesOnChain r a b) said agrees in
    let mapped' = subst (λ (r : Records). need_map ≡ true → IsSome r.map) said chain.mapped in
    subst (λ (r : Records). HasSameChain b more first need_map r) (sym said)
    (chain_too a b len more first need_map chain.places le fits_a fits_b chain.whole chain.few mapped' agrees')

-- ---- where the counts lie

-- one of the spans has P
abbrev pub HasSpan : (Span → Type 0) → List Span → Type 0
HasSpan P [] = ⊥
HasSpan P (span ∷ spans) = P span ⊎ HasSpan P spans

-- the counts at this place follow the first 23 bytes of a record with this span
pub record HasCounts (at : ℕ) (span : Span) : Type 0 where
  pub begins : at ≡ span.at + 23
  pub ends : at + 8 ≤ span.at + span.len

span_among : (bytes : List ℕ) (at : ℕ) (places : List ℕ) (s : ℕ) → In s places → HasCounts at (span_of bytes s) → HasSpan (HasCounts at) (map (span_of bytes) places)
span_among bytes at [] s among has = absurd among
span_among bytes at (place ∷ places) s (inl e) has = inl (subst (λ (q : ℕ). HasCounts at (span_of bytes q)) e has)
span_among bytes at (place ∷ places) s (inr among) has = inr (span_among bytes at places s among has)

counts_found : (bytes : List ℕ) (len first : ℕ) (places : List ℕ) → IsChainFront bytes len first places 0 → (status : StatusRecord)
    → (s : Option ℕ) → first_of_kind bytes 4 places ≡ s → status_in bytes s ≡ Some status → HasSpan (HasCounts status.at) (map (span_of bytes) places)
counts_found bytes len first places front status None e is = absurd cc
counts_found bytes len first places front status (Some s) e is =
    let f = found bytes 4 places s e in
    let p = placed bytes len [] first places 0 front s f.among in
    let size = status_size (head_of bytes s).kind (head_of bytes s).size f.kind_is p.sized in
    let at : s + 23 ≡ status.at = cc in
    span_among bytes status.at places s f.among (record { begins = sym at; ends = omega (arith, size, at) })

pub counts_within : (bytes : List ℕ) (len first : ℕ) (need_map : Bool) (records : Records) (status : StatusRecord) → IsChain bytes len first need_map records
    → records.status ≡ Some status → HasSpan (HasCounts status.at) records.spans
unfolding records_of
counts_within bytes len first need_map records status chain is =
    let said = chain.said in
    let spans : records.spans ≡ map (span_of bytes) chain.places = ap (λ (r : Records). r.spans) said in
    let found_is : status_in bytes (first_of_kind bytes 4 chain.places) ≡ Some status = sym (ap (λ (r : Records). r.status) said) ∙ is in
    subst (λ (xs : List Span). HasSpan (HasCounts status.at) xs) (sym spans)
    (counts_found bytes len first chain.places chain.whole status (first_of_kind bytes 4 chain.places) refl found_is)
