-- What is shown of a block that was handed out, and what isn't known of its path.
use Rattle.std.proofs.Common.{◌≡◌, ℕ, zero, suc, ◌+◌, ◌≤◌, ◌==◌, ◌&&◌, ◌||◌, Bool, true, false, not, filter, map, List, [], ◌∷◌, ◌++◌, length, take, is_some, Option, Some, None, Result, Ok, Err, refl, sym, ap, subst, ◌∙◌, arith, zero-add, add-one}
use Rattle.std.specs.List.{list_any, range_with_len}
use Rattle.std.proofs.lemmas.Bool.{eqb-true, eq-eqb}
use Rattle.std.proofs.lemmas.List.FromFn.{length-map-range_with_len, map-range_with_len_more}
use Rattle.std.proofs.lemmas.List.Sums.{count_by-le-length, length-filter}
use Rattle.std.proofs.lemmas.Map.Views.{any-filter_same}
use Rattle.inc_tree.specs.shape.Geometry.{Shape, block_len, depth, path_block}
use Rattle.inc_tree.specs.read_block.Path.{NamesBreak, block_digest}
use Rattle.inc_tree.specs.read_block.Verified.{content_at}
use Rattle.inc_tree.specs.declared.read_block.shown.Shown.{Shown}
use Rattle.inc_tree.specs.declared.read_block.shown.Shown.TheVariants.{Proved, Unproved as without_proof}
use Rattle.inc_signature.specs.declared.signature.SigInfo.{SigInfo}
use Rattle.inc_layout.specs.Backing.{sig_root}
use Rattle.inc_layout.specs.fixed.Fixed.{shape_for}
use Rattle.inc_layout.specs.opening.Listed.{listed}
use Rattle.inc_cell.specs.device.Handed.{is_known, unknown_hashes}
use Rattle.inc_cell.specs.declared.machine.CellFooting.{CellFooting}
use Rattle.inc_cache.specs.Known.{KnownBlocks, kept_levels, known_of, missing_levels, numbers_kept, path_numbers}
use Rattle.inc_handle.specs.Caches.{CacheFits, IsCacheOf}
use Rattle.inc_handle.specs.Reads.{IsOfCache, IsOfRead, IsShown, KnowsBlock, KnowsPathOf, ReadTold, ShowBreaks, numbers_known}
use Rattle.inc_cache.specs.Kept.{CachedHashes}
use Rattle.inc_cache.specs.Used.{kept_at}
use Rattle.inc_model.specs.declared.words.outcomes.Found.{Found}
use Rattle.inc_model.specs.declared.words.outcomes.ReadError.{ReadError}
use Rattle.inc_turn.specs.declared.view.View.{View}

-- ---- what isn't known of a path is what is missing

module _ (kept : List (ℕ × List ℕ)) where
  abbrev is_kept : ℕ → Bool
  is_kept number = is_some (kept_at number kept)

  -- of the kept numbers of a list, a number of the list is one exactly where it is kept
  known_as_kept : (all : List ℕ) (hash : ℕ) → list_any (λ number. number == hash) all ≡ true → is_known (filter is_kept all) hash ≡ is_kept hash
  known_as_kept all hash there =
      any-filter_same (λ number. number == hash) is_kept (is_kept hash) (λ k e. ap is_kept (eqb-true k hash e)) all ∙ rw there (and_true (is_kept hash))
    where
      and_true : (b : Bool) → (b && true) ≡ b
      and_true true = refl
      and_true false = refl

  one_more : (all xs : List ℕ) (hash : ℕ) (found : Option (List ℕ)) → kept_at hash kept ≡ found → is_known (filter is_kept all) hash ≡ is_kept hash
      → length (filter (λ h. not (is_known (filter is_kept all) h)) xs) ≡ missing_levels (map (λ h. kept_at h kept) xs)
      → length (filter (λ h. not (is_known (filter is_kept all) h)) (hash ∷ xs)) ≡ missing_levels (map (λ h. kept_at h kept) (hash ∷ xs))
  one_more all xs hash (Some block) is same more = rw (same, is) more
  one_more all xs hash None is same more = rw (same, is) (let step : length (filter (λ h. not (is_known (filter is_kept all) h)) xs) + 1 ≡ 1 + missing_levels (map (λ h. kept_at h kept) xs) = omega (arith, more) in omega (arith, step))

  unknown_count : (all xs : List ℕ) → ((hash : ℕ) → list_any (λ number. number == hash) xs ≡ true → list_any (λ number. number == hash) all ≡ true)
      → length (filter (λ h. not (is_known (filter is_kept all) h)) xs) ≡ missing_levels (map (λ h. kept_at h kept) xs)
  unknown_count all [] inside = refl
  unknown_count all (hash ∷ xs) inside =
      let here : (hash == hash) ≡ true = eq-eqb hash hash refl in
      let head : list_any (λ number. number == hash) (hash ∷ xs) ≡ true = rw here in
      one_more all xs hash (kept_at hash kept) refl (known_as_kept all hash (inside hash head))
      (unknown_count all xs (λ h e. inside h (rest h e)))
    where
      rest : (h : ℕ) → list_any (λ number. number == h) xs ≡ true → list_any (λ number. number == h) (hash ∷ xs) ≡ true
      rest h e = rw e (or_true (hash == h))
        where
          or_true : (b : Bool) → (b || true) ≡ true
          or_true true = refl
          or_true false = refl

listed_is : {X : Type 0} (f : ℕ → X) (n : ℕ) → listed f n ≡ map f (range_with_len 0 n)
unfolding listed
listed_is {X} f zero = refl
listed_is {X} f (suc n) =
    let more : map f (range_with_len 0 (n + 1)) ≡ map f (range_with_len 0 n) ++ f n ∷ [] = map-range_with_len_more f 0 n n (zero-add n) in
    rw (listed_is f n) (sym (rw add-one at more))

map_twice : {X Y : Type 0} (f : ℕ → X) (g : X → Y) (xs : List ℕ) → map g (map f xs) ≡ map (λ x. g (f x)) xs
map_twice f g [] = refl
map_twice f g (x ∷ xs) = ap (λ l. g (f x) ∷ l) (map_twice f g xs)

pub missing_is_unknown : (shape : Shape) (index : ℕ) (kept : List (ℕ × List ℕ)) → length (unknown_hashes shape index (numbers_kept shape index kept)) ≡ missing_levels (kept_levels shape index kept)
missing_is_unknown shape index kept =
    rw (listed_is (path_block shape index) (depth shape))
    (unknown_count kept (path_numbers shape index) (path_numbers shape index) (λ hash e. e)
    ∙ ap missing_levels (map_twice (path_block shape index) (λ h. kept_at h kept) (range_with_len 0 (depth shape))))

pub few_numbers : (shape : Shape) (index : ℕ) (kept : List (ℕ × List ℕ)) → depth shape ≤ 4 → length (numbers_kept shape index kept) ≤ 4
few_numbers shape index kept low =
    let p : ℕ → Bool = λ number. is_some (kept_at number kept) in
    let all = length-map-range_with_len (path_block shape index) 0 (depth shape) in
    omega (arith, low, all, length-filter p (path_numbers shape index), count_by-le-length p (path_numbers shape index))

-- ---- a path that breaks

-- the digest at hand is that of the block's content
digest_of_content : (footing : CellFooting) (index : ℕ) (bytes digest : List ℕ) (len : ℕ) (known : KnownBlocks) → digest ≡ block_digest (take len bytes)
    → len ≡ block_len footing.opened.areas.geometry index → KnowsBlock footing index known → digest ≡ block_digest (content_at known.shape known.index bytes)
digest_of_content footing index bytes digest len known hashed len_is k =
    let same : len ≡ block_len known.shape known.index = len_is ∙ (ap (λ (s : Shape). block_len s index) (sym k.shape_is) ∙ ap (block_len known.shape) (sym k.index_is)) in
    hashed ∙ ap (λ (n : ℕ). block_digest (take n bytes)) same

-- the path that was checked is whole, and fails there
pub broken_shown : (footing : CellFooting) (index : ℕ) (bytes digest : List ℕ) (len : ℕ) (known : KnownBlocks) (path : List (List ℕ)) (level : ℕ) (wanted got : List ℕ)
    → digest ≡ block_digest (take len bytes) → len ≡ block_len footing.opened.areas.geometry index → KnowsBlock footing index known → length path ≡ depth known.shape
    → NamesBreak known.root known.index (content_at known.shape known.index bytes) path level wanted got → ShowBreaks footing index level wanted got digest
broken_shown footing index bytes digest len known path level wanted got hashed len_is k full breaks = record {
  root = known.root;
  bytes = content_at known.shape known.index bytes;
  path = path;
  digest_is = sym (digest_of_content footing index bytes digest len known hashed len_is k);
  root_is = k.root_is;
  full = full ∙ ap depth k.shape_is;
  breaks = subst (λ (i : ℕ). NamesBreak known.root i (content_at known.shape known.index bytes) path level wanted got) k.index_is breaks;
}

-- what a cache keeps of a block's path is known of it
pub cache_knows : (footing : CellFooting) (index : ℕ) (root : List ℕ) (shape : Shape) (kept : List (ℕ × List ℕ)) (known : KnownBlocks) → known ≡ known_of root shape index kept
    → sig_root footing.opened.sig ≡ Some root → shape ≡ footing.opened.areas.geometry → depth shape ≤ 4 → KnowsBlock footing index known
cache_knows footing index root shape kept known is root_is shape_is low =
    subst (KnowsBlock footing index) (sym is) (record {
      root_is = root_is;
      shape_is = shape_is;
      index_is = refl;
      count = subst (λ (s : Shape). length (unknown_hashes s index (numbers_kept shape index kept)) ≡ missing_levels (kept_levels shape index kept)) shape_is (missing_is_unknown shape index kept);
      few = few_numbers shape index kept low;
    })

pub few_known : (footing : CellFooting) (index : ℕ) (known : Option KnownBlocks) → KnowsPathOf footing index known → length (numbers_known known) ≤ 4
few_known footing index None k = omega arith
few_known footing index (Some known) k = k.few

-- a file with a root has a tree
pub signed_has_tree : (sig : Option SigInfo) (size : ℕ) (root : List ℕ) → sig_root sig ≡ Some root → (shape_for sig size).flat ≡ false
signed_has_tree None size root h = absurd (cc)
signed_has_tree (Some sig) size root h = refl

-- what was shown under the file's root is of its cache
pub read_of_cache : (may : ℕ → Type 0) (footing : CellFooting) (v w : View CellFooting) (index uid : ℕ) (cache : Option CachedHashes) (result : Result Found ReadError) → CacheFits footing cache
    → ReadTold may footing v w index uid result → IsOfRead cache result
read_of_cache may footing v w index uid None result fits told = tt
read_of_cache may footing v w index uid (Some cache) (Err error) fits told = tt
read_of_cache may footing v w index uid (Some cache) (Ok found) fits told = shown_of_cache cache found.shown told.digest fits told.shown
  where
    some_root : (a b : List ℕ) → (let one : Option (List ℕ) = Some a in one) ≡ Some b → a ≡ b
    some_root a b e = cc

    shown_of_cache : (cache : CachedHashes) (shown : Shown) (digest : List ℕ) → (sig_root footing.opened.sig ≡ Some cache.root) × (cache.shape ≡ footing.opened.areas.geometry)
        → IsShown (sig_root footing.opened.sig) footing.opened.areas.geometry index digest shown → IsOfCache cache shown
    shown_of_cache cache (Proved block) digest fits shown = (some_root block.root cache.root (sym shown.0 ∙ fits.0), shown.1 ∙ sym fits.1)
    shown_of_cache cache (without_proof block) digest fits shown = tt

-- ---- a reader's cache

pub fitting_is_own : (footing : CellFooting) (cache : Option CachedHashes) → CacheFits footing cache → IsCacheOf footing cache
fitting_is_own footing None fits = record { root_is = refl; shape_is = refl }
fitting_is_own footing (Some cache) fits = record { root_is = sym fits.0; shape_is = fits.1 }

pub own_fits : (footing : CellFooting) (cache : CachedHashes) → IsCacheOf footing (Some cache) → CacheFits footing (Some cache)
own_fits footing cache own = (sym own.root_is, own.shape_is)
