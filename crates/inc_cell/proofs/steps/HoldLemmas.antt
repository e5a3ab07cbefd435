-- What holds of each cell: at its opening, and after each entry.
use Rattle.std.proofs.Common.{◌≡◌, ◌⊎◌, inl, ℕ, ◌^◌, ◌≤◌, List, [], ◌∷◌, length, get_or, Option, Some, None, refl, sym, ap, subst, ◌∙◌, arith}
use Rattle.inc_pending.specs.Keyed.{lookup}
use Rattle.inc_entry.specs.Keeps.{Kind, Acknowledged, Begun, KeptDamaged, KeptCompressed, Shut}
use Rattle.inc_disk.specs.Disk.{DiskState, Now, settled}
use Rattle.inc_entry.specs.declared.classes.Class.TheVariants.{Closed}
use Rattle.inc_fill.specs.Facts.{Gated, row_at}
use Rattle.inc_fill.specs.Laws.{SaysAsMuch}
use Rattle.inc_layout.specs.opening.Opening.{IsSoundOpened}
use Rattle.inc_layout.specs.state.Reopening.{IsMountedOn, kind_from, opened_kind, rows_of}
use Rattle.inc_layout.specs.state.State.{kind_in}
use Rattle.inc_layout.specs.declared.opened.Opened.{Opened}
use Rattle.inc_layout.proofs.opened_file.OpenedParts.{has_parts, kinds_agree}
use Rattle.inc_readlog.specs.Log.{Tells}
use Rattle.inc_cell.specs.seen.Parts.{lists_of, opening_of, parts_of}
use Rattle.inc_cell.specs.seen.Seen.{CellHolds, Seen, StandsIn}
use Rattle.inc_cell.specs.seen.Spots.{opened_spot}
use Rattle.inc_cell.specs.seen.Standing.{Follows, Standing}
use Rattle.inc_cell.proofs.standing.KindLemmas.{same_row}
use Rattle.inc_cell.proofs.openings.OpenedLemmas.{mounts_opened}
use Rattle.inc_cell.proofs.openings.OpeningLemmas.{begins_as}

-- ---- the opening

says_self : (kind : Kind) → SaysAsMuch kind kind
says_self (Begun digest) = inl refl
says_self (Acknowledged digest) = refl
says_self KeptDamaged = refl
says_self KeptCompressed = refl
says_self Shut = refl

says_same : (kind other : Kind) → other ≡ kind → SaysAsMuch kind other
says_same kind other e = subst (SaysAsMuch kind) (sym e) (says_self kind)

opened_follows : (opened : Opened) (faults readers : ℕ) → IsSoundOpened opened → Follows (parts_of (opening_of opened faults readers)) (lists_of opened).held [] (opened_kind opened) (λ i. None)
opened_follows opened faults readers sound =
    let begins = begins_as opened sound faults readers in
    record {
      covers = λ i. says_same (opened_kind opened i) (kind_in (parts_of (opening_of opened faults readers)) i) (kinds_agree opened (parts_of (opening_of opened faults readers)) begins.told i);
      flying = λ i found e. absurd (cc);
      resting = λ i e. inl refl;
      opens = opens;
    }
  where
    known : (found : Option (List ℕ)) (i : ℕ) (digest : List ℕ) → found ≡ Some digest → kind_from found (get_or opened.classes i Closed) ≡ Acknowledged digest
    known (Some other) i digest e = let same = e in cc
    known None i digest e = absurd (cc)

    opens : (i : ℕ) (digest : List ℕ) → lookup i (lists_of opened).held ≡ Some digest → (opened_kind opened i ≡ Acknowledged digest) ⊎ (None ≡ Some (row_at digest Gated))
    opens i digest e = inl (known (get_or opened.digests i None) i digest (sym ((has_parts opened).acknowledged_is i) ∙ same_row (rows_of 0 opened.digests) i ∙ e))

opened_stands : (opened : Opened) (faults readers : ℕ) (states : List DiskState) → IsSoundOpened opened → Now states (IsMountedOn settled opened) → StandsIn opened (opening_of opened faults readers) (opened_spot opened) opened.len states
opened_stands opened faults readers [] sound mounted = record { stands = tt; ends = λ well. tt }
opened_stands opened faults readers (disk ∷ past) sound mounted = record {
  stands = subst (Standing opened (parts_of (opening_of opened faults readers)) (lists_of opened).held [] (opened_spot opened)) (sym mounted.state_is) (record {
    base = mounted.bytes;
    kind = opened_kind opened;
    row = λ i. None;
    fixed = mounted.stands.laid.fixed;
    facts = mounts_opened mounted.bytes opened mounted.stands;
    follows = opened_follows opened faults readers sound;
  });
  ends = λ well. ap (λ (d : DiskState). length d.reads) mounted.state_is ∙ sym mounted.stands.laid.len_is;
}

pub opening_holds : (opened : Opened) (readers : ℕ) (seen : Seen) → seen.opened ≡ opened → seen.opening ≡ opening_of opened seen.count readers → seen.history ≡ [] → IsSoundOpened opened → opened.len ≤ 2 ^ 46
    → Now seen.states (IsMountedOn settled opened) → Tells [] seen.log → CellHolds seen opened.len
opening_holds opened readers seen opened_is opening_is history_is sound short mounted logged =
    let made : Seen = record { states = seen.states; count = seen.count; opened = opened; opening = opening_of opened seen.count readers; history = []; log = seen.log } in
    let one = sym opened_is in
    let two = sym opening_is in
    let three = sym history_is in
    let same : made ≡ seen = λ k. record { states = seen.states; count = seen.count; opened = one k; opening = two k; history = three k; log = seen.log } in
    subst (λ (s : Seen). CellHolds s opened.len) same (record {
      sound = sound;
      short = short;
      begins = begins_as opened sound seen.count readers;
      legal = tt;
      counted = omega arith;
      grown = omega arith;
      standing = opened_stands opened seen.count readers seen.states sound mounted;
      spots_fit = λ i found e. absurd (cc);
      logged = logged;
    })
