-- What a name's verdict says of the file that a command then reads.
use Rattle.std.proofs.Common.{◌≡◌, ℕ, ◌+◌, ◌≤◌, List, Bool, true, false, if◌then◌else◌, Option, Some, None, Result, Ok, Err, refl, sym, ap, ◌∙◌, subst, arith, nat_le, inl, inr}
use Rattle.std.proofs.lemmas.Bool.Decides.{nat_tests}
use Rattle.std.specs.Str.{bytes_eq}
use Rattle.std.specs.FinMap.{get}
use Rattle.std.specs.Prelude.{IfSome, IfOk, IsSomeAnd, is_some, option_map}
use Rattle.inc_io.specs.Contents.{Contents}
use Rattle.inc_layout.specs.Backing.{laid_of}
use Rattle.inc_layout.specs.declared.fault.LayoutFault.{LayoutFault}
use Rattle.inc_layout.specs.declared.opened.Layout.{Layout}
use Rattle.inc_mapped.specs.Mapping.{Mapping}
use Rattle.inc_volume.specs.Standings.{is_complete, standing_of, standing_with}
use Rattle.inc_volume.specs.Verdicts.{IsVerdict, KeepsId, holder_of, part_verdict, plain_verdict, size_held, size_of_any, size_with, standing_at, verdict_of, verdict_with}
use Rattle.inc_volume.specs.declared.holder.Holder.{Holder}
use Rattle.inc_volume.specs.declared.standing.Standing.{Standing}
use Rattle.inc_volume.specs.declared.standing.Standing.TheVariants as standing
use Rattle.inc_volume.specs.declared.verdict.Verdict.{Verdict}
use Rattle.inc_volume.specs.declared.verdict.Verdict.TheVariants.{Plain, Mapped, SameId, PastOriginal}
use Rattle.inc_volume.proofs.Keeping.{holder_keeps}
use Rattle.inc_cmd.specs.Commands.{ShowsOf, VouchesOf, original_ending, part_laid_as}
use Rattle.inc_cmd.specs.Commands.Names.{HoldsOfName, IsMappedAs, bytes_of_holder, bytes_with_id}
use Rattle.inc_cmd.specs.Commands.Parts.{EndsIn}
use Rattle.inc_cmd.specs.Runs.{Vouches}
use Rattle.inc_words.specs.Command.{Over}
use Rattle.inc_words.specs.Endings.{EndsAs, refused}
use Rattle.inc_words.specs.Refusals.{no_original}
use Rattle.inc_words.specs.declared.outcome.CommandOutcome.{CommandOutcome}
use Rattle.inc_words.specs.declared.stop.Stop.{Stop}
use Rattle.inc_words.specs.declared.words.FileCommand.{FileCommand}

-- a mapped name says so itself, and ends in the file that keeps the id
pub record IsPartOf (files : Contents) (name original : List ℕ) (offset size : ℕ) : Type 0 where
  pub own : standing_at files name ≡ Some (standing.Part original offset size)
  pub holder : Holder
  pub found : holder_of files original ≡ Some holder
  pub fits : offset + size ≤ holder.size

not_plain : (name id original : List ℕ) (complete : Bool) (offset size : ℕ) (found : Option Holder) → Mapped original offset size ≡ plain_verdict name id complete found → ⊥
not_plain name id original complete offset size None e = cc
not_plain name id original complete offset size (Some holder) e =
    elim (bytes_eq holder.name name) as (λ b. Mapped original offset size ≡ (if b then Plain id complete else SameId id) → ⊥) [
      | true ↦ λ is. cc
      | false ↦ λ is. cc
    ] e

-- the standing's id, offset and size are those of the verdict
record IsSamePart (files : Contents) (own original : List ℕ) (at offset len size : ℕ) : Type 0 where
  id_is : own ≡ original
  at_is : at ≡ offset
  len_is : len ≡ size
  holder : Holder
  found : holder_of files own ≡ Some holder
  fits : at + len ≤ holder.size

same_part : (files : Contents) (own original : List ℕ) (at offset len size : ℕ) (found : Option Holder) → holder_of files own ≡ found → Mapped original offset size ≡ part_verdict own at len found
    → IsSamePart files own original at offset len size
same_part files own original at offset len size None held e = absurd (cc)
same_part files own original at offset len size (Some holder) held e =
    elim (nat_le (at + len) holder.size) as (λ b. nat_le (at + len) holder.size ≡ b → Mapped original offset size ≡ (if b then Mapped own at len else PastOriginal own) → IsSamePart files own original at offset len size) [
      | true ↦ λ le is. record { id_is = cc; at_is = cc; len_is = cc; holder = holder; found = held; fits = grind (arith, nat_tests) }
      | false ↦ λ le is. absurd (cc)
    ] refl e

part_of_standing : (files : Contents) (name original : List ℕ) (offset size : ℕ) (found : Standing) → standing_at files name ≡ Some found → Mapped original offset size ≡ verdict_with (holder_of files) name found
    → IsPartOf files name original offset size
part_of_standing files name original offset size (standing.Plain id len complete) own e = absurd (not_plain name id original complete offset size (holder_of files id) e)
part_of_standing files name original offset size (standing.Part id at len) own e =
    let same = same_part files id original at offset len size (holder_of files id) refl e in
    record {
      own = own ∙ ap (λ (i : List ℕ). Some (standing.Part i at len)) same.id_is ∙ ap (λ (n : ℕ). Some (standing.Part original n len)) same.at_is
          ∙ ap (λ (n : ℕ). Some (standing.Part original offset n)) same.len_is;
      holder = same.holder;
      found = ap (holder_of files) (sym same.id_is) ∙ same.found;
      fits = subst (λ (n : ℕ). offset + n ≤ same.holder.size) same.len_is (subst (λ (n : ℕ). n + len ≤ same.holder.size) same.at_is same.fits);
    }
part_of_standing files name original offset size (standing.Refused fault) own e = absurd (cc)

same_verdict : (one other : Verdict) → Some one ≡ Some other → one ≡ other
same_verdict one other e = cc

pub mapped_told : (files : Contents) (name original : List ℕ) (offset size : ℕ) → Some (Mapped original offset size) ≡ verdict_of files name → IsPartOf files name original offset size
mapped_told files name original offset size e =
    elim (standing_at files name) as (λ found. standing_at files name ≡ found → Some (Mapped original offset size) ≡ option_map (verdict_with (holder_of files) name) found → IsPartOf files name original offset size) [
      | None ↦ λ own is. absurd (cc)
      | Some found ↦ λ own is. part_of_standing files name original offset size found own (same_verdict (Mapped original offset size) (verdict_with (holder_of files) name found) is)
    ] refl e

-- ---- the file that is lent

size_plain : (own id : List ℕ) (size wanted : ℕ) (complete : Bool) → size_with id (standing.Plain own size complete) ≡ Some wanted → size ≡ wanted
size_plain own id size wanted complete e =
    elim (bytes_eq own id) as (λ b. (if b then Some size else None) ≡ Some wanted → size ≡ wanted) [
      | true ↦ λ is. cc
      | false ↦ λ is. absurd (cc)
    ] e

size_laid : (bytes id : List ℕ) (layout : Layout) (size : ℕ) → laid_of bytes ≡ Ok layout → size_with id (standing_of bytes) ≡ Some size → layout.header.size ≡ size
unfolding standing_of
size_laid bytes id layout size laid held =
    size_plain layout.header.id id layout.header.size size (is_complete layout) (sym (ap (λ (r : Result Layout LayoutFault). size_with id (standing_with r bytes)) laid) ∙ held)

same_found : (one other : Holder) → Some one ≡ Some other → one ≡ other
same_found one other e = cc

-- the part ends in the file that keeps its original's id
ends_in : (files : Contents) (name original bytes : List ℕ) (mapping : Mapping) (holder : Holder) → IsMappedAs files name original mapping → Some holder ≡ holder_of files original
    → get files holder.name ≡ Some bytes → EndsIn bytes mapping
ends_in files name original bytes mapping holder judged found stored = λ layout laid.
    let part = mapped_told files name original mapping.offset mapping.size judged in
    let same : part.holder ≡ holder = same_found part.holder holder (sym part.found ∙ sym found) in
    let held : size_held files original holder.name ≡ Some holder.size = (holder_keeps files original holder (sym found)).stands in
    let size : layout.header.size ≡ holder.size = size_laid bytes original layout holder.size laid (sym (ap (λ (b : Option (List ℕ)). size_of_any original (option_map standing_of b)) stored) ∙ held) in
    subst (λ (n : ℕ). mapping.offset + mapping.size ≤ n) (ap (λ (h : Holder). h.size) same ∙ sym size) part.fits

-- nothing keeps the id, or no file stands there
no_bytes : (files : Contents) (command : FileCommand) (name original : List ℕ) (mapping : Mapping) (result : Result CommandOutcome Stop) → bytes_with_id files original ≡ None
    → IfOk result (EndsAs (refused name no_original)) → IfOk result (EndsAs (original_ending command name original mapping (bytes_with_id files original)))
no_bytes files command name original mapping result none ends =
    subst (λ (b : Option (List ℕ)). IfOk result (EndsAs (original_ending command name original mapping b))) (sym none) ends

pub no_holder : (told : Option Contents) (command : FileCommand) (name original : List ℕ) (mapping : Mapping) (result : Result CommandOutcome Stop) → IfSome told (λ files. None ≡ holder_of files original)
    → IfOk result (EndsAs (refused name no_original)) → IfSome told (λ files. IfOk result (EndsAs (original_ending command name original mapping (bytes_with_id files original))))
no_holder None command name original mapping result none ends = tt
no_holder (Some files) command name original mapping result none ends = no_bytes files command name original mapping result (ap (bytes_of_holder files) (sym none)) ends

is_none : (bytes : Option (List ℕ)) → false ≡ is_some bytes → bytes ≡ None
is_none None e = refl
is_none (Some bytes) e = absurd (cc)

pub no_file : (told : Option Contents) (command : FileCommand) (name original : List ℕ) (mapping : Mapping) (holder : Holder) (result : Result CommandOutcome Stop) → IfSome told (λ files. Some holder ≡ holder_of files original)
    → IfSome told (λ files. false ≡ is_some (get files holder.name)) → IfOk result (EndsAs (refused name no_original))
    → IfSome told (λ files. IfOk result (EndsAs (original_ending command name original mapping (bytes_with_id files original))))
no_file None command name original mapping holder result found none ends = tt
no_file (Some files) command name original mapping holder result found none ends =
    no_bytes files command name original mapping result (ap (bytes_of_holder files) (sym found) ∙ is_none (get files holder.name) none) ends

pub part_answered : (told : Option Contents) (read : Option (List ℕ)) (command : FileCommand) (name original : List ℕ) (mapping : Mapping) (holder : Holder) (result : Result CommandOutcome Stop)
    → IfSome told (λ files. IsMappedAs files name original mapping) → IfSome told (λ files. Some holder ≡ holder_of files original) → IfSome told (λ files. true ≡ is_some (get files holder.name))
    → IfSome told (λ files. read ≡ get files holder.name)
    → IfSome read (λ bytes. EndsIn bytes mapping → IfOk result (EndsAs (part_laid_as command name original mapping bytes (laid_of bytes))))
    → IfSome told (λ files. IfOk result (EndsAs (original_ending command name original mapping (bytes_with_id files original))))
part_answered None read command name original mapping holder result judged found there is answer = tt
part_answered (Some files) read command name original mapping holder result judged found there is answer =
    subst (λ (b : Option (List ℕ)). IfOk result (EndsAs (original_ending command name original mapping b))) (ap (bytes_of_holder files) found)
    (go (get files holder.name) refl there (subst (λ (r : Option (List ℕ)). IfSome r (λ bytes. EndsIn bytes mapping → IfOk result (EndsAs (part_laid_as command name original mapping bytes (laid_of bytes))))) is answer))
  where
    go : (stored : Option (List ℕ)) → get files holder.name ≡ stored → true ≡ is_some stored
        → IfSome stored (λ bytes. EndsIn bytes mapping → IfOk result (EndsAs (part_laid_as command name original mapping bytes (laid_of bytes)))) → IfOk result (EndsAs (original_ending command name original mapping stored))
    go None stored there answer = absurd (cc)
    go (Some bytes) stored there answer = answer (ends_in files name original bytes mapping holder judged found stored)

-- ---- what is shown

-- what is shown of the original's bytes that were lent
pub part_shown_of : (told : Option Contents) (read : Option (List ℕ)) (command : FileCommand) (original : List ℕ) (mapping : Mapping) (holder : Holder) (result : Result CommandOutcome Stop)
    → IfSome told (λ files. Some holder ≡ holder_of files original) → IfSome told (λ files. true ≡ is_some (get files holder.name)) → IfSome told (λ files. read ≡ get files holder.name)
    → IfSome read (λ bytes. IfOk result (λ outcome. outcome.status.0 ≡ 0 → ShowsOf command outcome.text.items (Some mapping) bytes))
    → IfSome told (λ files. IfOk result (λ outcome. outcome.status.0 ≡ 0 → IsSomeAnd (bytes_with_id files original) (λ bytes. ShowsOf command outcome.text.items (Some mapping) bytes)))
part_shown_of None read command original mapping holder result found there is shows = tt
part_shown_of (Some files) read command original mapping holder result found there is shows =
    subst (λ (b : Option (List ℕ)). IfOk result (λ outcome. outcome.status.0 ≡ 0 → IsSomeAnd b (λ bytes. ShowsOf command outcome.text.items (Some mapping) bytes))) (ap (bytes_of_holder files) found)
    (go (get files holder.name) result there (subst (λ (r : Option (List ℕ)). IfSome r (λ bytes. IfOk result (λ outcome. outcome.status.0 ≡ 0 → ShowsOf command outcome.text.items (Some mapping) bytes))) is shows))
  where
    go : (stored : Option (List ℕ)) (result : Result CommandOutcome Stop) → true ≡ is_some stored → IfSome stored (λ bytes. IfOk result (λ outcome. outcome.status.0 ≡ 0 → ShowsOf command outcome.text.items (Some mapping) bytes))
        → IfOk result (λ outcome. outcome.status.0 ≡ 0 → IsSomeAnd stored (λ bytes. ShowsOf command outcome.text.items (Some mapping) bytes))
    go None result there shows = absurd cc
    go (Some bytes) (Ok outcome) there shows = shows
    go (Some bytes) (Err stop) there shows = tt

-- a file that keeps its id is shown itself
own_holds : (files : Contents) (name id : List ℕ) (complete : Bool) (P : Option Mapping → List ℕ → Type 0) (stored : Option (List ℕ)) → get files name ≡ stored → KeepsId files name id complete
    → IsSomeAnd stored (λ bytes. P None bytes) → HoldsOfName files name P
own_holds files name id complete P None is keeps holds = absurd holds
own_holds files name id complete P (Some bytes) is keeps holds = inl (record { id = id; complete = complete; keeps = keeps; bytes = bytes; stored = is; holds = holds })

pub shows_own : (told : Option Contents) (command : FileCommand) (name id : List ℕ) (complete : Bool) (result : Result CommandOutcome Stop) → IfSome told (λ files. IsVerdict files name (Plain id complete))
    → IfSome told (λ files. IfOk result (λ outcome. outcome.status.0 ≡ 0 → IsSomeAnd (get files name) (λ bytes. ShowsOf command outcome.text.items None bytes)))
    → IfSome told (λ files. IfOk result (λ outcome. outcome.status.0 ≡ 0 → HoldsOfName files name (ShowsOf command outcome.text.items)))
shows_own None command name id complete result means shows = tt
shows_own (Some files) command name id complete (Ok outcome) means shows = λ done. own_holds files name id complete (ShowsOf command outcome.text.items) (get files name) refl means (shows done)
shows_own (Some files) command name id complete (Err stop) means shows = tt

-- a mapped name is shown of the file that keeps its original's id
part_holds : (files : Contents) (name original : List ℕ) (mapping : Mapping) (P : Option Mapping → List ℕ → Type 0) → IsMappedAs files name original mapping
    → IsSomeAnd (bytes_with_id files original) (λ bytes. P (Some mapping) bytes) → HoldsOfName files name P
part_holds files name original mapping P judged holds =
    let part = mapped_told files name original mapping.offset mapping.size judged in
    go part (get files part.holder.name) refl (subst (λ (b : Option (List ℕ)). IsSomeAnd b (λ bytes. P (Some mapping) bytes)) (ap (bytes_of_holder files) part.found) holds)
  where
    go : (part : IsPartOf files name original mapping.offset mapping.size) (stored : Option (List ℕ)) → get files part.holder.name ≡ stored → IsSomeAnd stored (λ bytes. P (Some mapping) bytes) → HoldsOfName files name P
    go part None is holds = absurd holds
    go part (Some bytes) is holds = inr (record {
      original = original;
      offset = mapping.offset;
      size = mapping.size;
      maps = record { own = part.own; holder = part.holder; holds = holder_keeps files original part.holder part.found; fits = part.fits };
      bytes = bytes;
      stored = is;
      holds = holds;
    })

pub shows_part : (told : Option Contents) (command : FileCommand) (name original : List ℕ) (mapping : Mapping) (result : Result CommandOutcome Stop) → IfSome told (λ files. IsMappedAs files name original mapping)
    → IfSome told (λ files. IfOk result (λ outcome. outcome.status.0 ≡ 0 → IsSomeAnd (bytes_with_id files original) (λ bytes. ShowsOf command outcome.text.items (Some mapping) bytes)))
    → IfSome told (λ files. IfOk result (λ outcome. outcome.status.0 ≡ 0 → HoldsOfName files name (ShowsOf command outcome.text.items)))
shows_part None command name original mapping result judged shows = tt
shows_part (Some files) command name original mapping (Ok outcome) judged shows = λ done. part_holds files name original mapping (ShowsOf command outcome.text.items) judged (shows done)
shows_part (Some files) command name original mapping (Err stop) judged shows = tt

-- a path leads from what is shown of some file, all or a part of which the name shows
pub vouches_name : (command : FileCommand) (name : List ℕ) (part : Option Mapping) (result : Result CommandOutcome Stop)
    → IfOk result (λ outcome. outcome.status.0 ≡ 0 → VouchesOf command part outcome.text.items) → IfOk result (λ outcome. outcome.status.0 ≡ 0 → Vouches (Over name command) outcome.text.items)
vouches_name command name part (Ok outcome) vouches = λ done. (part, vouches done)
vouches_name command name part (Err stop) vouches = tt
