-- The names of a shelf, and which of them are out.
use Rattle.std.proofs.Common.{◌≡◌, ℕ, suc, ◌+◌, ◌<◌, ◌≤◌, List, [], ◌∷◌, ◌++◌, Bool, true, false, ◌||◌, cond, length, map, take, drop, get_or, refl, sym, ap, ◌∙◌, arith}
use Rattle.std.specs.Prelude.{Contains}
use Rattle.std.specs.List.{list_any}
use Rattle.std.specs.Str.{bytes_eq}
use Rattle.std.specs.declared.cmp.Ordering.TheVariants.{Less, Equal, Greater}
use Rattle.std.specs.declared.cmp.Ordering.{Ordering}
use Rattle.std.specs.Ordering.{nat_cmp, is_gt, is_eq}
use Rattle.std.specs.Cmp.Lexicographic.{slice_cmp, nat_list_cmp_total}
use Rattle.std.specs.FinMap.{insert, keys, entries, entries-insert, put, len-empty, len-entries}
use Rattle.std.specs.FinMap.Entries.{by_order}
use Rattle.std.proofs.lemmas.Map.Text.{is_eq-slice_cmp}
use Rattle.std.proofs.lemmas.Map.Views.{list_any-from_Contains}
use Rattle.std.specs.Cmp.Lexicographic.{nat_list_eq_equiv}
use Rattle.std.proofs.lemmas.Slice.Eq.{bytes_eq-Decides}
use Rattle.inc_io.specs.Contents.{Contents}
use Rattle.inc_io.specs.Names.{without}
use Rattle.inc_disk.specs.Disk.{DiskState}
use Rattle.inc_disk.specs.Log.{Log, contents_of, entries_of}
use Rattle.inc_disk.specs.Book.{log_of, with_name, place_among}
use Rattle.inc_disk.specs.declared.entry.Entry.{Entry}
use Rattle.inc_disk.proofs.LogLemmas.{log_step}

is_equal : (o : Ordering) → is_eq o ≡ true → o ≡ Equal
is_equal Less e = absurd (cc)
is_equal Equal e = refl
is_equal Greater e = absurd (cc)

itself : (name : List ℕ) → slice_cmp nat_cmp name name ≡ Equal
itself name = is_equal _ (is_eq-slice_cmp name name ∙ (bytes_eq-Decides name name).1 refl)

map_put : {X : Type 0} (name : List ℕ) (v : X) (es : List (List ℕ × X)) → map (λ e. e.0) (put (slice_cmp nat_cmp) name v es) ≡ with_name name (map (λ e. e.0) es)
map_put name v [] = refl
map_put name v (e ∷ es) =
    elim (slice_cmp nat_cmp name e.0) as (λ o. map (λ e. e.0) (by_order o ((name, v) ∷ e ∷ es) ((e.0, v) ∷ es) (e ∷ put (slice_cmp nat_cmp) name v es))
    ≡ by_order o (name ∷ e.0 ∷ map (λ e. e.0) es) (e.0 ∷ map (λ e. e.0) es) (e.0 ∷ with_name name (map (λ e. e.0) es))) [
      | Less ↦ refl
      | Equal ↦ refl
      | Greater ↦ ap (λ (names : List (List ℕ)). e.0 ∷ names) (map_put name v es)
    ]

twice : (name : List ℕ) (names : List (List ℕ)) → with_name name (with_name name names) ≡ with_name name names
twice name [] = ap (λ (o : Ordering). by_order o (name ∷ name ∷ []) (name ∷ []) (name ∷ name ∷ [])) (itself name)
twice name (other ∷ names) =
    elim (slice_cmp nat_cmp name other) as (λ o. slice_cmp nat_cmp name other ≡ o
    → with_name name (by_order o (name ∷ other ∷ names) (other ∷ names) (other ∷ with_name name names)) ≡ by_order o (name ∷ other ∷ names) (other ∷ names) (other ∷ with_name name names)) [
      | Less ↦ λ e. ap (λ (o : Ordering). by_order o (name ∷ name ∷ other ∷ names) (name ∷ other ∷ names) (name ∷ with_name name (other ∷ names))) (itself name)
      | Equal ↦ λ e. ap (λ (o : Ordering). by_order o (name ∷ other ∷ names) (other ∷ names) (other ∷ with_name name names)) e
      | Greater ↦ λ e. ap (λ (o : Ordering). by_order o (name ∷ other ∷ with_name name names) (other ∷ with_name name names) (other ∷ with_name name (with_name name names))) e
          ∙ ap (λ (more : List (List ℕ)). other ∷ more) (twice name names)
    ] refl

keys_insert : (files : Contents) (name bytes : List ℕ) → keys (insert files name bytes) ≡ with_name name (keys files)
keys_insert files name bytes = ap (map (λ e. e.0)) (entries-insert nat_list_cmp_total files name bytes) ∙ map_put name bytes (entries files)

keys_entries : (name : List ℕ) (disk : DiskState) (past : List DiskState) (log : Log) → keys (contents_of (entries_of name (disk ∷ past) ++ log)) ≡ with_name name (keys (contents_of log))
keys_entries name disk [] log = keys_insert (contents_of log) name disk.reads
keys_entries name disk (before ∷ past) log =
    keys_insert (contents_of (entries_of name (before ∷ past) ++ log)) name disk.reads ∙ ap (with_name name) (keys_entries name before past log) ∙ twice name (keys (contents_of log))

-- one entry more on the way through a list of entries
pub names_step : (entries : List Entry) (i : ℕ) (entry : Entry) (disk : DiskState) (past : List DiskState) → i < length entries → entry ≡ get_or entries i entry → entry.history ≡ disk ∷ past
    → keys (contents_of (log_of (take (i + 1) entries))) ≡ with_name entry.name (keys (contents_of (log_of (take i entries))))
names_step entries i entry disk past lt here is =
    ap (λ (log : Log). keys (contents_of log)) (log_step entries i entry lt)
    ∙ ap (λ (e : Entry). keys (contents_of (entries_of e.name e.history ++ log_of (take i entries)))) (sym here)
    ∙ ap (λ (states : List DiskState). keys (contents_of (entries_of entry.name states ++ log_of (take i entries)))) is
    ∙ keys_entries entry.name disk past (log_of (take i entries))

no_length : (names : List (List ℕ × List ℕ)) → length names ≡ 0 → names ≡ []
no_length [] e = refl
no_length (name ∷ names) e = absurd (omega arith)

pub no_keys : keys (contents_of []) ≡ []
no_keys = ap (map (λ e. e.0)) (no_length (entries (contents_of [])) (sym (len-entries (contents_of [])) ∙ len-empty (slice_cmp nat_cmp) (List ℕ)))

-- The place of a name among names in byte order.

apart : (name other : List ℕ) → slice_cmp nat_cmp name other ≡ Less → bytes_eq name other ≡ true → ⊥
apart name other e same = let wrong : false ≡ true = sym (ap is_eq e) ∙ is_eq-slice_cmp name other ∙ same in absurd (cc)

alike : (name other : List ℕ) → slice_cmp nat_cmp name other ≡ Equal → bytes_eq name other ≡ false → ⊥
alike name other e other_name = let wrong : true ≡ false = sym (ap is_eq e) ∙ is_eq-slice_cmp name other ∙ other_name in absurd (cc)

there : (names : List (List ℕ)) (name d : List ℕ) → place_among name names < length names → bytes_eq name (get_or names (place_among name names) d) ≡ true → with_name name names ≡ names
there [] name d = λ lt same. absurd (omega arith)
there (other ∷ names) name d =
    elim (slice_cmp nat_cmp name other) as (λ o. slice_cmp nat_cmp name other ≡ o
    → cond (is_gt o) (suc (place_among name names)) 0 < suc (length names)
    → bytes_eq name (get_or (other ∷ names) (cond (is_gt o) (suc (place_among name names)) 0) d) ≡ true
    → by_order o (name ∷ other ∷ names) (other ∷ names) (other ∷ with_name name names) ≡ other ∷ names) [
      | Less ↦ λ e lt same. absurd (apart name other e same)
      | Equal ↦ λ e lt same. refl
      | Greater ↦ λ e lt same. ap (λ (more : List (List ℕ)). other ∷ more) (there names name d (omega arith) same)
    ] refl

goes_in : (names : List (List ℕ)) (name d : List ℕ) → (place_among name names < length names → bytes_eq name (get_or names (place_among name names) d) ≡ false)
    → take (place_among name names) names ++ name ∷ drop (place_among name names) names ≡ with_name name names
goes_in [] name d = λ ne. refl
goes_in (other ∷ names) name d =
    elim (slice_cmp nat_cmp name other) as (λ o. slice_cmp nat_cmp name other ≡ o
    → (cond (is_gt o) (suc (place_among name names)) 0 < suc (length names)
    → bytes_eq name (get_or (other ∷ names) (cond (is_gt o) (suc (place_among name names)) 0) d) ≡ false)
    → take (cond (is_gt o) (suc (place_among name names)) 0) (other ∷ names) ++ name ∷ drop (cond (is_gt o) (suc (place_among name names)) 0) (other ∷ names)
    ≡ by_order o (name ∷ other ∷ names) (other ∷ names) (other ∷ with_name name names)) [
      | Less ↦ λ e ne. refl
      | Equal ↦ λ e ne. absurd (alike name other e (ne (omega arith)))
      | Greater ↦ λ e ne. ap (λ (more : List (List ℕ)). other ∷ more) (goes_in names name d (λ lt. ne (omega arith)))
    ] refl

pub there_at : (names : List (List ℕ)) (name d : List ℕ) (at : ℕ) → at ≡ place_among name names → at < length names → bytes_eq name (get_or names at d) ≡ true → with_name name names ≡ names
there_at names name d at e lt same = there names name d (rw e at lt) (rw e at same)

pub goes_in_at : (names : List (List ℕ)) (name d : List ℕ) (at : ℕ) → at ≡ place_among name names → (at < length names → bytes_eq name (get_or names at d) ≡ false)
    → take at names ++ name ∷ drop at names ≡ with_name name names
goes_in_at names name d at e ne = rw e (goes_in names name d (rw e at ne))

-- Names that are out.

pub length_without : (name : List ℕ) (names : List (List ℕ)) → length (without name names) ≤ length names
length_without name [] = omega arith
length_without name (other ∷ names) =
    elim (bytes_eq name other) as (λ b. length (cond b (without name names) (other ∷ without name names)) ≤ suc (length names)) [
      | true ↦ omega (arith, length_without name names)
      | false ↦ omega (arith, length_without name names)
    ]

pub one_less : (name : List ℕ) (names : List (List ℕ)) → list_any (bytes_eq name) names ≡ true → length (without name names) < length names
one_less name [] = λ e. absurd (cc)
one_less name (other ∷ names) =
    elim (bytes_eq name other) as (λ b. (b || list_any (bytes_eq name) names) ≡ true → length (cond b (without name names) (other ∷ without name names)) < suc (length names)) [
      | true ↦ λ e. omega (arith, length_without name names)
      | false ↦ λ e. omega (arith, one_less name names e)
    ]

pub is_there : (name : List ℕ) (names : List (List ℕ)) → Contains names name → list_any (bytes_eq name) names ≡ true
is_there name names there = list_any-from_Contains nat_list_eq_equiv name names there

-- one name that was out alone
pub alone_out : (name : List ℕ) → without name (name ∷ []) ≡ []
alone_out name = ap (λ (b : Bool). cond b [] (name ∷ [])) ((bytes_eq-Decides name name).1 refl)
