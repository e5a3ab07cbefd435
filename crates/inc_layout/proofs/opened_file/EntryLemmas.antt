-- The entries of a file's map, read in pieces, and the digests of its stored blocks.
use Rattle.std.proofs.Common.{◌≡◌, ◌⊎◌, ℕ, suc, ◌+◌, ◌-◌, ◌*◌, ◌<◌, ◌≤◌, true, false, List, [], ◌∷◌, ◌++◌, length, take, drop, get_or, Option, Some, None, inl, inr, sym, ap, ◌∙◌, subst, arith}
use Rattle.std.specs.Prelude.{IfSome}
use Rattle.std.proofs.lemmas.List.{get_or-take, get_or-drop}
use Rattle.inc_bytes.specs.Fields.{le_number}
use Rattle.inc_tree.specs.shape.Geometry.{block_len}
use Rattle.inc_tree.specs.read_block.Path.{block_digest}
use Rattle.inc_entry.specs.Entry.{Places, class_of, entries, entry_at, entry_from, map_span, past_end}
use Rattle.inc_entry.specs.Spans.{IsInside}
use Rattle.inc_entry.specs.Stored.{class_at, digest_of, is_past, part}
use Rattle.inc_entry.specs.declared.classes.Class.{Class}
use Rattle.inc_entry.specs.declared.classes.Class.TheVariants.{OpenAt}
use Rattle.inc_entry.proofs.BlockLemmas.{open_inside}
use Rattle.inc_layout.specs.opening.Listed.{listed}
use Rattle.inc_layout.specs.opening.Opening.{HasClasses, IsPastFault}
use Rattle.inc_layout.specs.declared.fault.LayoutFault.{LayoutFault}
use Rattle.inc_layout.specs.declared.fault.LayoutFault.TheVariants.{OutOfMemory, PlacePastEnd}
use Rattle.inc_layout.proofs.ListedLemmas.{first_found, listed_more, none_more, none_yet}

-- ---- an entry in a piece of the map

byte_same : (bytes piece : List ℕ) (at k j : ℕ) → piece ≡ part (length piece) at bytes → 10 * k + 10 ≤ length piece → j < 10
    → get_or (take 10 (drop (10 * k) piece)) j 0 ≡ get_or bytes (at + 10 * k + j) 0
byte_same bytes piece at k j is le lt =
    get_or-take 10 (drop (10 * k) piece) j 0 lt ∙ get_or-drop (10 * k) piece j 0
    ∙ ap (λ (p : List ℕ). get_or p (10 * k + j) 0) is
    ∙ get_or-take (length piece) (drop at bytes) (10 * k + j) 0 (omega arith) ∙ get_or-drop at bytes (10 * k + j) 0
    ∙ ap (λ (n : ℕ). get_or bytes n 0) (let e : at + (10 * k + j) ≡ at + 10 * k + j = omega arith in e)

entry_same : (bytes piece : List ℕ) (at k : ℕ) → piece ≡ part (length piece) at bytes → 10 * k + 10 ≤ length piece
    → entry_from (take 10 (drop (10 * k) piece)) 0 ≡ entry_from bytes (at + 10 * k)
unfolding entry_from
entry_same bytes piece at k is le =
    let b0 = byte_same bytes piece at k 0 is le (omega arith) in
    let b1 = byte_same bytes piece at k 1 is le (omega arith) in
    let b2 = byte_same bytes piece at k 2 is le (omega arith) in
    let b3 = byte_same bytes piece at k 3 is le (omega arith) in
    let b4 = byte_same bytes piece at k 4 is le (omega arith) in
    let b5 = byte_same bytes piece at k 5 is le (omega arith) in
    let b6 = byte_same bytes piece at k 6 is le (omega arith) in
    let b7 = byte_same bytes piece at k 7 is le (omega arith) in
    let b8 = byte_same bytes piece at k 8 is le (omega arith) in
    let b9 = byte_same bytes piece at k 9 is le (omega arith) in
    λ i. record {
      offset = le_number (b0 i ∷ b1 i ∷ b2 i ∷ b3 i ∷ b4 i ∷ b5 i ∷ []);
      low = b6 i;
      high = b7 i;
      flags = le_number (b8 i ∷ b9 i ∷ []);
    }

-- the entry of an index, in the piece that begins with the entry of another one
pub entry_is : (places : Places) (bytes piece entry : List ℕ) (first index : ℕ) → piece ≡ part (length piece) (entry_at places first) bytes → first ≤ index
    → 10 * (index - first) + 10 ≤ length piece → entry ≡ take 10 (drop (10 * (index - first)) piece) → entry_from entry 0 ≡ entry_from bytes (entry_at places index)
entry_is places bytes piece entry first index is le within own =
    ap (λ (e : List ℕ). entry_from e 0) own ∙ entry_same bytes piece (entry_at places first) (index - first) is within
    ∙ ap (entry_from bytes) (let e : places.map_at + 10 * first + 10 * (index - first) ≡ places.map_at + 10 * index = omega arith in e)

no_classes : (places : Places) (bytes : List ℕ) (classes : List Class) → classes ≡ [] → HasClasses places bytes 0 classes
unfolding listed
no_classes places bytes classes e = record { none = none_yet (is_past places bytes); all = e }

pub start_classes : (told : Option (List ℕ)) (places : Places) (len : ℕ) (classes : List Class) → classes ≡ []
    → IfSome told (λ bytes. IsInside (length bytes) (map_span places) → len ≡ length bytes → HasClasses places bytes 0 classes)
start_classes None places len classes e = tt
start_classes (Some bytes) places len classes e = λ inside l. no_classes places bytes classes e

-- the room was filled with the entries from one index up to another
pub piece_given : (told : Option (List ℕ)) (places : Places) (first end at : ℕ) (before room : List ℕ) (Q : List ℕ → Type 0) → at ≡ entry_at places first → first < end → end ≤ entries places
    → length before ≡ 10 * (end - first) → length room ≡ length before
    → IfSome told (λ bytes. at + length before ≤ length bytes → room ≡ part (length before) at bytes)
    → ((bytes : List ℕ) → room ≡ part (length room) (entry_at places first) bytes → Q bytes)
    → IfSome told (λ bytes. IsInside (length bytes) (map_span places) → Q bytes)
piece_given None places first end at before room Q is some within sized same filled on = tt
piece_given (Some bytes) places first end at before room Q is some within sized same filled on = λ inside.
    let whole = inside (omega arith) in
    let read : room ≡ part (length before) at bytes = filled (omega arith) in
    on bytes (read ∙ (λ i. part (sym same i) (is i) bytes))

pub more_classes : (places : Places) (bytes entry : List ℕ) (len index next : ℕ) (before after : List Class) → entry_from entry 0 ≡ entry_from bytes (entry_at places index) → len ≡ length bytes
    → past_end places len index (entry_from entry 0) ≡ false → after ≡ before ++ class_of places len index (entry_from entry 0) ∷ [] → next ≡ suc index
    → HasClasses places bytes index before → HasClasses places bytes next after
more_classes places bytes entry len index next before after same l inside added more has =
    let not_past : is_past places bytes index ≡ false = sym (λ i. past_end places (l i) index (same i)) ∙ inside in
    let own : class_of places len index (entry_from entry 0) ≡ class_at places bytes index = λ i. class_of places (l i) index (same i) in
    subst (λ (n : ℕ). HasClasses places bytes n after) (sym more) (record {
      none = none_more index (is_past places bytes) has.none not_past;
      all = added ∙ (λ i. has.all i ++ own i ∷ []) ∙ listed_more (class_at places bytes) index;
    })

pub past_fault : (places : Places) (bytes entry : List ℕ) (len index : ℕ) (before : List Class) (fault : LayoutFault) → entry_from entry 0 ≡ entry_from bytes (entry_at places index) → len ≡ length bytes
    → index < entries places → (fault ≡ OutOfMemory) ⊎ ((fault ≡ PlacePastEnd index) × (past_end places len index (entry_from entry 0) ≡ true))
    → HasClasses places bytes index before → IsPastFault places bytes fault
past_fault places bytes entry len index before fault same l here failed has =
    elim failed [
      | inl memory ↦ subst (λ (f : LayoutFault). IsPastFault places bytes f) (sym memory) tt
      | inr past ↦
          let over : is_past places bytes index ≡ true = sym (λ i. past_end places (l i) index (same i)) ∙ past.1 in
          subst (λ (f : LayoutFault). IsPastFault places bytes f) (sym past.0) (first_found (entries places) index (is_past places bytes) has.none over here)
    ]

-- ---- stored blocks

pub digest_given : (told : Option (List ℕ)) (places : Places) (index place size count : ℕ) (class : Class) (block digest : List ℕ) → class ≡ OpenAt place size
    → count ≡ block_len places.shape index
    → IfSome told (λ bytes. place + count ≤ length bytes → block ≡ part count place bytes) → digest ≡ block_digest block
    → IfSome told (λ bytes. class ≡ class_at places bytes index → Some digest ≡ digest_of places bytes index class)
digest_given None places index place size count class block digest is whole read hashed = tt
digest_given (Some bytes) places index place size count class block digest is whole read hashed = λ own.
    let within = open_inside places bytes index place size (sym own ∙ is) in
    let stored : block ≡ part (block_len places.shape index) place bytes = read (omega arith) ∙ ap (λ (n : ℕ). part n place bytes) whole in
    (λ i. Some ((hashed ∙ ap (λ (b : List ℕ). block_digest b) stored) i)) ∙ sym (ap (digest_of places bytes index) is)
