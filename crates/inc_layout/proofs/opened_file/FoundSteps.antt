-- The digests of stored blocks, found one after the other or four at once, over a content that may not be told.
use Rattle.std.proofs.Common.{◌≡◌, ℕ, suc, ◌+◌, ◌-◌, ◌<◌, ◌≤◌, Bool, true, false, List, [], ◌∷◌, ◌++◌, length, take, drop, get_or, replicate, Option, Some, None, Result, Ok, refl, sym, ap, ◌∙◌, subst, arith, append_assoc, length-append, length-drop}
use Rattle.std.specs.Prelude.{IfSome, is_some}
use Rattle.std.proofs.lemmas.List.{length-take-le, take_at}
use Rattle.inc_io.specs.Causes.{HasCauseAt}
use Rattle.sha2.specs.Sha256.{sha256}
use Rattle.inc_tree.specs.shape.Geometry.{block_len}
use Rattle.inc_tree.specs.read_block.Path.{block_digest}
use Rattle.inc_entry.specs.Entry.{Places, entries}
use Rattle.inc_entry.specs.Stored.{class_at, digest_of, is_open_class, part, stored_digest}
use Rattle.inc_entry.specs.declared.classes.Class.{Class}
use Rattle.inc_entry.specs.declared.classes.Class.TheVariants.{Damaged, OpenAt}
use Rattle.inc_entry.proofs.BlockLemmas.{open_inside}
use Rattle.inc_layout.specs.opening.Found.{HasFound, digest_if}
use Rattle.inc_layout.specs.opening.Listed.{listed}
use Rattle.inc_layout.proofs.opened_file.EntryLemmas.{digest_given}
use Rattle.inc_layout.proofs.LoopSteps.{digests_more, digests_start, there_more}

-- ---- one block in its room

padded_room : (block behind filled room : List ℕ) (count : ℕ) → length block ≡ count → filled ≡ block ++ behind
    → room ≡ take count filled ++ replicate (4096 - count) 0 → sha256 room ≡ block_digest block
padded_room block behind filled room count sized read cleared =
    let front : take count filled ≡ block = ap (λ (xs : List ℕ). take count xs) read ∙ take_at block behind count sized in
    ap sha256 (cleared ∙ (λ i. front i ++ replicate (4096 - sym sized i) 0))

-- an open block was read into its room, and what stood behind it was cleared
pub open_read : (told : Option (List ℕ)) (places : Places) (index place size count : ℕ) (class : Class) (before filled room : List ℕ) → class ≡ OpenAt place size
    → count ≡ block_len places.shape index
    → IfSome told (λ bytes. place + count ≤ length bytes → filled ≡ part count place bytes ++ drop count before)
    → room ≡ take count filled ++ replicate (4096 - count) 0
    → IfSome told (λ bytes. class ≡ class_at places bytes index → digest_if true room ≡ digest_of places bytes index class)
open_read None places index place size count class before filled room is whole read cleared = tt
open_read (Some bytes) places index place size count class before filled room is whole read cleared = λ own.
    let within : place + block_len places.shape index ≤ length bytes = open_inside places bytes index place size (sym own ∙ is) in
    let fits : place + count ≤ length bytes = omega arith in
    let sized : length (part count place bytes) ≡ count = length-take-le count (drop place bytes) (omega (arith, length-drop place bytes)) in
    digest_given (Some bytes) places index place size count class (part count place bytes) (sha256 room) is whole (λ _. refl)
    (padded_room (part count place bytes) (drop count before) filled room count sized (read fits) cleared) own

-- ---- one more digest

pub found_none : (told : Option (List ℕ)) (places : Places) (classes : List Class) (digests : List (Option (List ℕ))) → digests ≡ [] → HasFound told places classes digests 0
found_none told places classes digests none = record {
  count = ap length none;
  there = λ i lt. absurd (omega arith);
  stored = digests_start told places classes digests none;
}

is_some-digest_if : (b : Bool) (room : List ℕ) → is_some (digest_if b room) ≡ b
is_some-digest_if true room = refl
is_some-digest_if false room = refl

read_as : (told : Option (List ℕ)) (places : Places) (index : ℕ) (class : Class) (digest found : Option (List ℕ)) → digest ≡ found
    → IfSome told (λ bytes. class ≡ class_at places bytes index → found ≡ digest_of places bytes index class)
    → IfSome told (λ bytes. class ≡ class_at places bytes index → digest ≡ digest_of places bytes index class)
read_as None places index class digest found same read = tt
read_as (Some bytes) places index class digest found same read = λ own. same ∙ read own

pub found_more : (told : Option (List ℕ)) (places : Places) (classes : List Class) (digests : List (Option (List ℕ))) (index next : ℕ) (class : Class) (b : Bool) (room : List ℕ)
    (digest : Option (List ℕ)) → HasFound told places classes digests index → next ≡ index + 1 → ((d : Class) → class ≡ get_or classes index d) → index < entries places
    → b ≡ is_open_class class → IfSome told (λ bytes. class ≡ class_at places bytes index → digest_if b room ≡ digest_of places bytes index class)
    → digest ≡ digest_if b room → HasFound told places classes (digests ++ digest ∷ []) next
found_more told places classes digests index next class b room digest found is_next is lt tells read same =
    let up : suc index ≡ next = omega arith in
    let there_is : is_some digest ≡ is_open_class class = ap is_some same ∙ (is_some-digest_if b room ∙ tells) in
    record {
      count = length-append digests (digest ∷ []) ∙ (let e = found.count in omega arith);
      there = subst (λ (n : ℕ). (i : ℕ) → i < n → is_some (get_or (digests ++ digest ∷ []) i None) ≡ is_open_class (get_or classes i Damaged)) up
          (there_more index class classes digests digest (is Damaged) found.count there_is found.there);
      stored = subst (λ (n : ℕ). IfSome told (λ bytes. classes ≡ listed (class_at places bytes) (entries places) → digests ++ digest ∷ [] ≡ listed (stored_digest places bytes) n)) up
          (digests_more told places index class classes digests digest (is class) lt (read_as told places index class digest (digest_if b room) same read) found.stored);
    }

-- four of them
module _ (told : Option (List ℕ)) (places : Places) (classes : List Class) (index : ℕ) where
  abbrev pub IsNext : ℕ → Class → Bool → List ℕ → Type 0
  IsNext at class b room = ((d : Class) → class ≡ get_or classes at d) × (b ≡ is_open_class class)
      × IfSome told (λ bytes. class ≡ class_at places bytes at → digest_if b room ≡ digest_of places bytes at class)

  one_next : (digests : List (Option (List ℕ))) (at next : ℕ) (class : Class) (b : Bool) (room : List ℕ) → next ≡ at + 1 → at < entries places → IsNext at class b room
      → HasFound told places classes digests at → HasFound told places classes (digests ++ digest_if b room ∷ []) next
  one_next digests at next class b room up lt is found = found_more told places classes digests at next class b room (digest_if b room) found up is.0 lt is.1 is.2 refl

  pub found_four : (k0 k1 k2 k3 : Class) (b0 b1 b2 b3 : Bool) (r0 r1 r2 r3 : List ℕ) (four : List (Option (List ℕ))) → index + 4 ≤ entries places
      → IsNext index k0 b0 r0 → IsNext (index + 1) k1 b1 r1 → IsNext (index + 2) k2 b2 r2 → IsNext (index + 3) k3 b3 r3
      → four ≡ digest_if b0 r0 ∷ digest_if b1 r1 ∷ digest_if b2 r2 ∷ digest_if b3 r3 ∷ []
      → (digests : List (Option (List ℕ))) → HasFound told places classes digests index → HasFound told places classes (digests ++ four) (index + 4)
  found_four k0 k1 k2 k3 b0 b1 b2 b3 r0 r1 r2 r3 four le is0 is1 is2 is3 same digests found =
      let one = one_next digests index (index + 1) k0 b0 r0 refl (omega arith) is0 found in
      let two = one_next _ (index + 1) (index + 2) k1 b1 r1 (omega arith) (omega arith) is1 one in
      let three = one_next _ (index + 2) (index + 3) k2 b2 r2 (omega arith) (omega arith) is2 two in
      let all = one_next _ (index + 3) (index + 4) k3 b3 r3 (omega arith) (omega arith) is3 three in
      let joined : (((digests ++ digest_if b0 r0 ∷ []) ++ digest_if b1 r1 ∷ []) ++ digest_if b2 r2 ∷ []) ++ digest_if b3 r3 ∷ [] ≡ digests ++ four = simp append_assoc (ap (λ (xs : List (Option (List ℕ))). digests ++ xs) (sym same)) in
      subst (λ (xs : List (Option (List ℕ))). HasFound told places classes xs (index + 4)) joined all

pub found_at : (told : Option (List ℕ)) (places : Places) (classes : List Class) (digests : List (Option (List ℕ))) (index next : ℕ) → index ≡ next
    → HasFound told places classes digests index → HasFound told places classes digests next
found_at told places classes digests index next same found = subst (λ (n : ℕ). HasFound told places classes digests n) same found

-- ---- causes

-- a fault tells nothing of the digests
pub nothing_found : (told : Option (List ℕ)) (P : List ℕ → Type 0) → IfSome told (λ bytes. P bytes → Unit {0})
nothing_found None P = tt
nothing_found (Some bytes) P = λ p. tt

pub no_cause : {T E : Type 0} (fault : E) (before now : ℕ) (value : T) → now ≡ before → HasCauseAt fault before now (let answer : Result T E = Ok value in answer)
no_cause fault before now value same = record { later = omega arith; failed = λ e. cc; kept = λ _. same }
