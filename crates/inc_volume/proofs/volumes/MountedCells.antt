-- One file more among those that are mounted.
use Rattle.std.proofs.Common.{◌≡◌, ℕ, ◌≤◌, List, [], ◌∷◌, ◌++◌, length, Bool, true, false, ◌||◌, if◌then◌else◌, nat_le, Option, Some, None, Result, Ok, Err, refl, sym, ap, ◌∙◌, subst, arith}
use Rattle.std.specs.Prelude.{◌^◌, IfSome, IfOk, IfErr, OnErr, is_some, option_map}
use Rattle.std.specs.List.{list_any}
use Rattle.std.specs.Option.{option_to_list}
use Rattle.std.specs.Str.{bytes_eq}
use Rattle.std.specs.FinMap.{get}
use Rattle.std.proofs.lemmas.Bool.Decides.{nat_tests}
use Rattle.std.proofs.lemmas.Map.Views.{Contains-from_any}
use Rattle.inc_disk.specs.Disk.{DiskState, Now, settled}
use Rattle.inc_disk.specs.Laws.{LeavesOnly}
use Rattle.inc_disk.specs.Log.{Log, contents_of, newest_of}
use Rattle.inc_disk.proofs.LogLemmas.{get_contents}
use Rattle.inc_io.specs.Causes.{HasCauseAt, Joins}
use Rattle.inc_io.specs.Contents.{Contents}
use Rattle.inc_io.specs.Names.{without}
use Rattle.inc_io.specs.Outside.{IsIn, IsOut}
use Rattle.inc_layout.specs.Backing.{digests_in, laid_of, opened_of, opened_with, with_layout}
use Rattle.inc_layout.specs.state.Reopening.{IsMountedOn}
use Rattle.inc_layout.specs.declared.fault.LayoutFault.{LayoutFault}
use Rattle.inc_layout.specs.declared.fault.LayoutFault.TheVariants.{TooLong}
use Rattle.inc_layout.specs.declared.mounted.Mounted.{Mounted}
use Rattle.inc_layout.specs.declared.opened.Layout.{Layout}
use Rattle.inc_layout.specs.declared.opened.Opened.{Opened}
use Rattle.inc_recover.specs.Mounting.{GivesMountFault, GivesMounted, HasRightCounts, IsCounted, IsCutAtSync, IsSameButCounts, IsUnwritten, MayBeLeftBy, layout_of}
use Rattle.inc_recover.specs.Reopening.{Reopens}
use Rattle.inc_recover.specs.declared.fault.MountFault.{MountFault}
use Rattle.inc_volume.specs.mounting.Cells.{AreCells, AreOut, IsCell, MountsFrom, faults_in, ids_in, names_in}
use Rattle.inc_volume.specs.mounting.Planned.{AreHolders, AreMounted, ArePlanned, IsHeldBy, IsPlanned}
use Rattle.inc_volume.specs.mounting.Targets.{IsNoVerdict}
use Rattle.inc_volume.specs.declared.mounting.refusal.MountRefusal.{MountRefusal}
use Rattle.inc_volume.specs.declared.mounting.refusal.MountRefusal.TheVariants.{Fault}
use Rattle.inc_volume.proofs.volumes.Differing.{bytes_self, different_more, not_there, same_bytes, without_last}
use Rattle.inc_volume.proofs.Keeping.{true_after}

-- ---- the file that is planned, as the disk is lent

record Stood (log : Log) (name bytes : List ℕ) : Type 0 where
  state : DiskState
  newest : newest_of name log ≡ Some state
  reads : state.reads ≡ bytes

stood : (log : Log) (name bytes : List ℕ) → get (contents_of log) name ≡ Some bytes → Stood log name bytes
stood log name bytes there = go (newest_of name log) refl (sym (get_contents log name) ∙ there)
  where
    same : (one other : List ℕ) → Some one ≡ Some other → one ≡ other
    same one other e = cc

    go : (newest : Option DiskState) → newest_of name log ≡ newest → option_map (λ (d : DiskState). d.reads) newest ≡ Some bytes → Stood log name bytes
    go None is e = absurd (cc)
    go (Some state) is e = record { state = state; newest = is; reads = same state.reads bytes e }

opens : (bytes : List ℕ) (layout : Layout) → laid_of bytes ≡ Ok layout → length bytes ≤ 2 ^ 46 → layout_of bytes ≡ Ok (opened_with layout (digests_in bytes layout.areas))
unfolding opened_of
opens bytes layout laid short =
    let fits : nat_le (length bytes) (2 ^ 46) ≡ true = grind (arith, nat_tests) in
    ap (λ (b : Bool). if b then opened_of bytes else Err TooLong) fits ∙ ap (with_layout bytes) laid

abbrev as_opened : Opened → Result Opened LayoutFault
as_opened opened = Ok opened

same_opened : (one other : Opened) → as_opened one ≡ as_opened other → one ≡ other
same_opened one other e = cc

-- the first state of the disk is that of the file
lent_state : (log : Log) (name : List ℕ) (old : List DiskState) (bytes : List ℕ) → old ≡ option_to_list (newest_of name log) → Stood log name bytes
    → (P : List ℕ → Type 0) → Now old (λ state. P state.reads) → P bytes
lent_state log name old bytes is stood P now =
    subst P stood.reads (subst (λ (states : List DiskState). Now states (λ state. P state.reads)) (is ∙ ap option_to_list stood.newest) now)

held_of : (log : Log) (name : List ℕ) (old : List DiskState) (opened : Opened) → old ≡ option_to_list (newest_of name log) → Now old (λ state. GivesMounted (Ok opened) (layout_of state.reads))
    → IsPlanned (contents_of log) name → IsHeldBy (contents_of log) opened.header.id name
held_of log name old opened is gives planned =
    let counted : IsCounted opened (layout_of planned.bytes) = lent_state log name old planned.bytes is (stood log name planned.bytes planned.there) (λ (bytes : List ℕ). IsCounted opened (layout_of bytes)) gives in
    let found = same_opened counted.found (opened_with planned.layout (digests_in planned.bytes planned.layout.areas)) (sym counted.wanted_is ∙ opens planned.bytes planned.layout planned.laid planned.short) in
    subst (λ (id : List ℕ). IsHeldBy (contents_of log) id name) (sym (ap (λ (o : Opened). o.header.id) counted.counted_is ∙ ap (λ (o : Opened). o.header.id) found)) planned.holds

pub lent_held : (log : Option Log) (name : List ℕ) (old : List DiskState) (opened : Opened) → IfSome log (λ entries. old ≡ option_to_list (newest_of name entries))
    → Now old (λ state. GivesMounted (Ok opened) (layout_of state.reads)) → IfSome log (λ entries. IsPlanned (contents_of entries) name → IsHeldBy (contents_of entries) opened.header.id name)
lent_held None name old opened is gives = tt
lent_held (Some log) name old opened is gives = λ planned. held_of log name old opened is gives planned

-- a file that is planned is refused for no layout
pub lent_only : (log : Option Log) (name : List ℕ) (old : List DiskState) (fault : MountFault) (refusal : MountRefusal) → IfSome log (λ entries. old ≡ option_to_list (newest_of name entries))
    → Now old (λ state. GivesMountFault fault (layout_of state.reads))
    → ((wanted : Result Opened LayoutFault) (found : Opened) → wanted ≡ Ok found → GivesMountFault fault wanted → IsNoVerdict refusal)
    → IfSome log (λ entries. IsPlanned (contents_of entries) name → IsNoVerdict refusal)
lent_only None name old fault refusal is gives only = tt
lent_only (Some log) name old fault refusal is gives only = λ planned.
    let given = lent_state log name old planned.bytes is (stood log name planned.bytes planned.there) (λ (bytes : List ℕ). GivesMountFault fault (layout_of bytes)) gives in
    only (layout_of planned.bytes) (opened_with planned.layout (digests_in planned.bytes planned.layout.areas)) (opens planned.bytes planned.layout planned.laid planned.short) given

-- nor does it miss
pub never_missing : (P : Type 0) (log : Option Log) (name : List ℕ) → IfSome log (λ entries. false ≡ is_some (newest_of name entries)) → IfSome log (λ entries. IsPlanned (contents_of entries) name → P)
never_missing P None name none = tt
never_missing P (Some log) name none = λ planned.
    let there = stood log name planned.bytes planned.there in
    absurd (let clash : false ≡ true = none ∙ ap is_some there.newest in cc)

pub whatever_planned : {P : Type 0} (log : Option Log) (name : List ℕ) → P → IfSome log (λ entries. IsPlanned (contents_of entries) name → P)
whatever_planned None name holds = tt
whatever_planned (Some log) name holds = λ planned. holds

-- ---- what a mount promises, together

pub mounts_from : (old new : List DiskState) (result : Result Opened MountFault)
    → Now old (λ state. GivesMounted result (layout_of state.reads))
    → IfOk result (λ opened. Now new (IsMountedOn settled opened))
    → Now old (λ before. Now new (λ after. IsSameButCounts before.reads after.reads))
    → Now old (λ before. IfOk result (λ opened. Now new (HasRightCounts before.reads)))
    → Now old (λ before. LeavesOnly old new (MayBeLeftBy old before.reads))
    → Now old (λ before. IsCutAtSync old new before.reads result)
    → Now old (λ before. IsUnwritten old new before.reads result)
    → Reopens old new result → MountsFrom old new result
mounts_from [] new result answer opened same counts moments since unwritten reopens = record { mounts = tt; reopens = reopens }
mounts_from (state ∷ past) new result answer opened same counts moments since unwritten reopens = record {
  mounts = record { answer = answer; opened = opened; same = same; counts = counts; moments = moments; since = since; unwritten = unwritten };
  reopens = reopens;
}

pub from_lent : (log : Option Log) (name : List ℕ) (old new : List DiskState) (result : Result Opened MountFault) → IfSome log (λ entries. old ≡ option_to_list (newest_of name entries))
    → MountsFrom old new result → IfSome log (λ entries. MountsFrom (option_to_list (newest_of name entries)) new result)
from_lent None name old new result is mounts = tt
from_lent (Some log) name old new result is mounts = subst (λ (states : List DiskState). MountsFrom states new result) is mounts

pub lent_there : (log : Option Log) (name : List ℕ) → IfSome log (λ entries. true ≡ is_some (newest_of name entries)) → IfSome log (λ entries. is_some (newest_of name entries) ≡ true)
lent_there None name is = tt
lent_there (Some log) name is = sym is

-- ---- which names are out

-- a name that isn't out may be lent, and is out then
pub may_lend : (out : Option (List (List ℕ))) (name : List ℕ) → IfSome out (λ names. list_any (bytes_eq name) names ≡ false) → IsIn name out
may_lend None name new = tt
may_lend (Some names) name new = λ there. not_there name names new there

last_there : (name : List ℕ) (names : List (List ℕ)) → list_any (bytes_eq name) (names ++ name ∷ []) ≡ true
last_there name [] = ap (λ (b : Bool). b || false) (bytes_self name)
last_there name (other ∷ names) = true_after (bytes_eq name other) (list_any (bytes_eq name) (names ++ name ∷ [])) (last_there name names)

pub out_last : (before after : Option (List (List ℕ))) (name : List ℕ) → after ≡ option_map (λ (names : List (List ℕ)). names ++ name ∷ []) before → IsOut name after
out_last None after name is = rw is tt
out_last (Some names) after name is = rw is (Contains-from_any same_bytes name (names ++ name ∷ []) (last_there name names))

-- back it is as before
pub out_again : (out : Option (List (List ℕ))) (name : List ℕ) → IfSome out (λ names. list_any (bytes_eq name) names ≡ false)
    → option_map (without name) (option_map (λ (names : List (List ℕ)). names ++ name ∷ []) out) ≡ out
out_again None name new = refl
out_again (Some names) name new = ap (λ (names : List (List ℕ)). Some names) (without_last name names new)

pub always_err : {T E P : Type 0} (result : Result T E) → P → OnErr result P
always_err (Ok value) holds = tt
always_err (Err fault) holds = holds

-- the names of the files that are mounted are those that are out
pub out_new : {D : Type 0} (out : Option (List (List ℕ))) (name : List ℕ) (cells : List (List ℕ × Mounted D)) → AreOut out (names_in cells) → list_any (bytes_eq name) (names_in cells) ≡ false
    → IfSome out (λ names. list_any (bytes_eq name) names ≡ false)
out_new None name cells are new = tt
out_new (Some names) name cells are new = rw are new

-- ---- one cell more

module _ {D : Type 0} where
  pub names_more : (cells : List (List ℕ × Mounted D)) (cell : List ℕ × Mounted D) → names_in (cells ++ cell ∷ []) ≡ names_in cells ++ cell.0 ∷ []
  names_more [] cell = refl
  names_more (other ∷ cells) cell = ap (λ (more : List (List ℕ)). other.0 ∷ more) (names_more cells cell)

  ids_more : (cells : List (List ℕ × Mounted D)) (cell : List ℕ × Mounted D) → ids_in (cells ++ cell ∷ []) ≡ ids_in cells ++ cell.1.opened.header.id ∷ []
  ids_more [] cell = refl
  ids_more (other ∷ cells) cell = ap (λ (more : List (List ℕ)). other.1.opened.header.id ∷ more) (ids_more cells cell)

  cells_more : (states : D → List DiskState) (faults : D → ℕ) (log : Option Log) (cells : List (List ℕ × Mounted D)) (cell : List ℕ × Mounted D) → AreCells states faults log cells
      → IsCell states faults log cell.0 cell.1 → AreCells states faults log (cells ++ cell ∷ [])
  cells_more states faults log [] cell all one = (one, tt)
  cells_more states faults log (other ∷ cells) cell all one = (all.0, cells_more states faults log cells cell all.1 one)

  holders_more : (files : Contents) (cells : List (List ℕ × Mounted D)) (cell : List ℕ × Mounted D) → AreHolders files cells → IsHeldBy files cell.1.opened.header.id cell.0
      → AreHolders files (cells ++ cell ∷ [])
  holders_more files [] cell all one = (one, tt)
  holders_more files (other ∷ cells) cell all one = (all.0, holders_more files cells cell all.1 one)

  all_hold : (log : Option Log) (cells : List (List ℕ × Mounted D)) (cell : List ℕ × Mounted D) → IfSome log (λ entries. AreHolders (contents_of entries) cells)
      → IfSome log (λ entries. IsHeldBy (contents_of entries) cell.1.opened.header.id cell.0) → IfSome log (λ entries. AreHolders (contents_of entries) (cells ++ cell ∷ []))
  all_hold None cells cell all one = tt
  all_hold (Some log) cells cell all one = holders_more (contents_of log) cells cell all one

  out_more : (before after : Option (List (List ℕ))) (cells : List (List ℕ × Mounted D)) (cell : List ℕ × Mounted D) → AreOut before (names_in cells)
      → after ≡ option_map (λ (names : List (List ℕ)). names ++ cell.0 ∷ []) before → AreOut after (names_in (cells ++ cell ∷ []))
  out_more None after cells cell out is = rw is tt
  out_more (Some told) after cells cell out is = rw is (ap (λ (names : List (List ℕ)). names ++ cell.0 ∷ []) out ∙ sym (names_more cells cell))

  pub mounted_more : (states : D → List DiskState) (faults : D → ℕ) (log : Option Log) (before after : Option (List (List ℕ))) (cells : List (List ℕ × Mounted D)) (cell : List ℕ × Mounted D)
      → AreMounted states faults log before cells → list_any (bytes_eq cell.0) (names_in cells) ≡ false → list_any (bytes_eq cell.1.opened.header.id) (ids_in cells) ≡ false
      → after ≡ option_map (λ (names : List (List ℕ)). names ++ cell.0 ∷ []) before → IsCell states faults log cell.0 cell.1
      → IfSome log (λ entries. IsHeldBy (contents_of entries) cell.1.opened.header.id cell.0) → AreMounted states faults log after (cells ++ cell ∷ [])
  mounted_more states faults log before after cells cell all name id out one held = record {
    names = rw (names_more cells cell) (different_more cell.0 (names_in cells) all.names name);
    ids = rw (ids_more cells cell) (different_more cell.1.opened.header.id (ids_in cells) all.ids id);
    out_is = out_more before after cells cell all.out_is out;
    mounted = cells_more states faults log cells cell all.mounted one;
    holders = all_hold log cells cell all.holders held;
  }

  pub none_mounted : (states : D → List DiskState) (faults : D → ℕ) (log : Option Log) (out : Option (List (List ℕ))) → IfSome out (λ names. names ≡ []) → AreMounted states faults log out []
  none_mounted states faults log out none = record { names = refl; ids = refl; out_is = none; mounted = tt; holders = nothing log }
    where
      nothing : (log : Option Log) → IfSome log (λ entries. AreHolders {D = D} (contents_of entries) [])
      nothing None = tt
      nothing (Some entries) = tt

  -- a file that keeps its id has another one than those that keep theirs under other names
  apart_id : (files : Contents) (id name : List ℕ) (cells : List (List ℕ × Mounted D)) → AreHolders files cells → IsHeldBy files id name → list_any (bytes_eq name) (names_in cells) ≡ false
      → list_any (bytes_eq id) (ids_in cells) ≡ false
  apart_id files id name [] all held new = refl
  apart_id files id name (cell ∷ cells) all held new =
      let parts = none_of (bytes_eq name cell.0) (list_any (bytes_eq name) (names_in cells)) new in
      neither (bytes_eq id cell.1.opened.header.id) (list_any (bytes_eq id) (ids_in cells)) (other parts.0) (apart_id files id name cells all.1 held parts.1)
    where
      none_of : (a b : Bool) → (a || b) ≡ false → (a ≡ false) × (b ≡ false)
      none_of true b e = absurd (cc)
      none_of false b e = (refl, e)

      neither : (a b : Bool) → a ≡ false → b ≡ false → (a || b) ≡ false
      neither a b one other = rw one other

      same_name : (one other : List ℕ) → Some one ≡ Some other → one ≡ other
      same_name one other e = cc

      other : bytes_eq name cell.0 ≡ false → bytes_eq id cell.1.opened.header.id ≡ false
      other differ =
          elim (bytes_eq id cell.1.opened.header.id) as (λ b. bytes_eq id cell.1.opened.header.id ≡ b → b ≡ false) [
            | true ↦ λ e. absurd (
                let same : IsHeldBy files id cell.0 = subst (λ (i : List ℕ). IsHeldBy files i cell.0) (sym (same_bytes id cell.1.opened.header.id e)) all.0 in
                let is : name ≡ cell.0 = same_name name cell.0 (sym held ∙ same) in
                let found : bytes_eq name cell.0 ≡ true = subst (λ (n : List ℕ). bytes_eq name n ≡ true) is (bytes_self name) in
                let clash : false ≡ true = sym differ ∙ found in cc)
            | false ↦ λ e. refl
          ] refl

  -- so on a shelf that tells its files no id is found twice
  pub never_twice : (P : Type 0) (log : Option Log) (id name : List ℕ) (cells : List (List ℕ × Mounted D)) → IfSome log (λ entries. AreHolders (contents_of entries) cells)
      → IfSome log (λ entries. IsHeldBy (contents_of entries) id name) → list_any (bytes_eq name) (names_in cells) ≡ false → list_any (bytes_eq id) (ids_in cells) ≡ true → IfSome log (λ entries. P)
  never_twice P None id name cells all held new found = tt
  never_twice P (Some log) id name cells all held new found =
      absurd (let apart = apart_id (contents_of log) id name cells all held new in let clash : false ≡ true = sym apart ∙ found in cc)

  pub no_faults : (states : D → List DiskState) (faults : D → ℕ) (log : Option Log) (cells : List (List ℕ × Mounted D)) → AreCells states faults log cells → faults_in faults cells ≡ 0
  no_faults states faults log [] all = refl
  no_faults states faults log (cell ∷ cells) all = let one = all.0.fresh in let more = no_faults states faults log cells all.1 in omega (arith, one, more)

-- what holds of a planned file holds of one that is
pub when_planned : (log : Option Log) (name : List ℕ) (P : Log → Type 0) → IfSome log (λ entries. IsPlanned (contents_of entries) name) → IfSome log (λ entries. IsPlanned (contents_of entries) name → P entries)
    → IfSome log P
when_planned None name P planned holds = tt
when_planned (Some log) name P planned holds = holds planned

pub never_refused : {T : Type 0} (result : Result T MountRefusal) (log : Option Log) → OnErr result (IfSome log (λ entries. ⊥)) → IfSome log (λ entries. IfErr result IsNoVerdict)
never_refused result None never = tt
never_refused (Ok value) (Some log) never = tt
never_refused (Err refusal) (Some log) never = absurd never

-- ---- the files of targets, one after the other

pub first_planned : (log : Option Log) (name : List ℕ) (names : List (List ℕ)) → IfSome log (λ entries. ArePlanned (contents_of entries) (name ∷ names)) → IfSome log (λ entries. IsPlanned (contents_of entries) name)
first_planned None name names all = tt
first_planned (Some log) name names all = all.0

pub rest_planned : (log : Option Log) (name : List ℕ) (names : List (List ℕ)) → IfSome log (λ entries. ArePlanned (contents_of entries) (name ∷ names)) → IfSome log (λ entries. ArePlanned (contents_of entries) names)
rest_planned None name names all = tt
rest_planned (Some log) name names all = all.1

-- the disks go back, and none of them has failed
abbrev refused_by : {T : Type 0} → MountRefusal → Result T MountRefusal
refused_by refusal = Err refusal

same_refusal : (T : Type 0) (one other : MountRefusal) → refused_by {T = T} one ≡ refused_by other → one ≡ other
same_refusal T one other e = cc

pub back_cause : {T D : Type 0} (states : D → List DiskState) (faults : D → ℕ) (log : Option Log) (out : Option (List (List ℕ))) (cells : List (List ℕ × Mounted D)) (before mid now : ℕ) (refusal : MountRefusal)
    → AreMounted states faults log out cells → HasCauseAt {T = Unit {0}} Fault before mid (Err refusal) → Joins mid (faults_in faults cells) now → HasCauseAt {T = T} Fault before now (Err refusal)
back_cause {T} states faults log out cells before mid now refusal all cause joins =
    let same : now ≡ mid = joins.none (no_faults states faults log cells all.mounted) in
    record {
      later = omega (arith, same, cause.later);
      failed = λ e. rw same (cause.failed (ap (λ (r : MountRefusal). refused_by {T = Unit {0}} r) (same_refusal T refusal Fault e)));
      kept = λ other. same ∙ cause.kept (λ e. other (ap (λ (r : MountRefusal). refused_by {T = T} r) (same_refusal (Unit {0}) refusal Fault e)));
    }
