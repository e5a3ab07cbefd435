-- Every step keeps the facts and the limit of the history.
use Rattle.std.proofs.Common.{◌≡◌, ℕ, ◌+◌, ◌<◌, ◌≤◌, Bool, true, false, cond, eqb, List, [], Some, refl, sym, subst, ◌∙◌, arith, inl}
use Rattle.std.specs.Prelude.{All, count_by, map}
use Rattle.std.proofs.lemmas.Bool.{eqb-false}
use Rattle.std.proofs.lemmas.List.Elements.{All-nil, All-map}
use Rattle.inc_pending.specs.Keyed.{KeysRise, lookup}
use Rattle.inc_pending.specs.Polling.{waits_on, AreRising}
use Rattle.inc_pending.specs.Times.{HoldsTimes}
use Rattle.inc_pending.proofs.TableLemmas.{rising-map}
use Rattle.inc_pending.specs.declared.reads.ReadRow.{ReadRow}
use Rattle.inc_pending.specs.declared.timeouts.Times.{Times}
use Rattle.inc_model.specs.declared.words.limits.TheConstants.{MOST_ENTRIES}
use Rattle.inc_model.specs.declared.words.event.Event.{Event}
use Rattle.inc_model.specs.declared.words.event.Event.TheVariants.{Ask, Poll, Cancel, Claim, PutData, PutPlace, Settle, Gate, Release, TakePending, SetTimes, Ranges, Count, Leave}
use Rattle.inc_model.specs.declared.words.event.Window.{Window}
use Rattle.inc_model.specs.declared.words.file_state.FileState.{FileState}
use Rattle.inc_model.specs.declared.words.file_state.FlightRow.{FlightRow}
use Rattle.inc_model.specs.declared.words.reply.Reply.{Reply}
use Rattle.inc_model.specs.declared.words.reply.Reply.TheVariants.{Claimed}
use Rattle.inc_model.specs.relation.State.{Claims, Digests, Rise, FlightRises, is_before, has, is_in, places_left, all_places, spend, unclaim, IsOpening, WindowsRise}
use Rattle.inc_model.specs.relation.Table.{reply_of}
use Rattle.inc_model.specs.relation.Changes.{claim_change, claims_after, rest_change, change}
use Rattle.inc_model.specs.relation.Step.{Fits, IsAllowed, HasRoom, needs}
use Rattle.inc_model.specs.relation.Facts.{RowFacts, FillFacts, FileFacts, MoreFacts}
use Rattle.inc_model.proofs.lists.Claims.{claim_rises, claim_places, spend_rises, spend_places, unclaim_rises, unclaim_places}
use Rattle.inc_model.proofs.facts_kept.Fill.{put_data_stays, put_data_more, put_place_stays, put_place_more}
use Rattle.inc_model.proofs.facts_kept.Groups.{with_claims, claims_apart}
use Rattle.inc_model.proofs.facts_kept.Reads.{ask_stays, ask_more, poll_stays, poll_more, cancel_stays, cancel_more, times_stays, times_more, leave_stays, leave_more}
use Rattle.inc_model.proofs.lists.Sets.{has_keys, pairs_none}
use Rattle.inc_model.proofs.facts_kept.Gate.{gate_stays, gate_more, release_stays, release_more}
use Rattle.inc_model.proofs.facts_kept.Settle.{settle_stays, settle_more}

-- ---- facts

claim_change_rises : (claimed : Claims) (window : Window) (places : ℕ) (reply : Reply) → WindowsRise claimed → WindowsRise (claim_change claimed window places reply)
claim_change_rises claimed window places Claimed h = claim_rises window places claimed h
claim_change_rises claimed window places reply h = h

claims_rise : (claimed : Claims) (event : Event) (reply : Reply) → WindowsRise claimed → WindowsRise (claims_after claimed event reply)
claims_rise claimed (Claim window places) reply h = claim_change_rises claimed window places reply h
claims_rise claimed (PutData window index digest) reply h = spend_rises window claimed h
claims_rise claimed (PutPlace window index) reply h = spend_rises window claimed h
claims_rise claimed (Settle window) reply h = spend_rises window claimed h
claims_rise claimed (Gate window index) reply h = spend_rises window claimed h
claims_rise claimed (Release window) reply h = unclaim_rises window claimed h
claims_rise claimed event reply h = h

rest_stays : (first s : FileState) (told : Bool) (at who : ℕ) (event : Event) (reply : Reply) → Fits told s.faults (reply_of s who event) reply → FileFacts first s → FileFacts first (rest_change at s who event reply)
rest_stays first s told at who (Ask block uid moment) reply h f = ask_stays first s who block uid moment reply f
rest_stays first s told at who (Poll serial moment) reply h f = poll_stays first s who serial reply f
rest_stays first s told at who (Cancel serial) reply h f = cancel_stays first s who serial reply f
rest_stays first s told at who (Claim window places) reply h f = f
rest_stays first s told at who (PutData window index digest) reply h f = put_data_stays first s told at window index digest reply h f
rest_stays first s told at who (PutPlace window index) reply h f = put_place_stays first s told at window index reply h f
rest_stays first s told at who (Settle window) reply h f = settle_stays first s at reply f
rest_stays first s told at who (Gate window index) reply h f = gate_stays first s told at window index (count_by (waits_on index) s.reads) reply h f
rest_stays first s told at who (Release window) reply h f = release_stays first s window f
rest_stays first s told at who (TakePending after most) reply h f = f
rest_stays first s told at who (SetTimes uid times) reply h f = times_stays first s uid times reply f
rest_stays first s told at who (Ranges start end room) reply h f = f
rest_stays first s told at who Count reply h f = f
rest_stays first s told at who Leave reply h f = leave_stays first s reply f

rest_more : (first s : FileState) (told : Bool) (at who : ℕ) (event : Event) (reply : Reply) → Fits told s.faults (reply_of s who event) reply → FileFacts first s → MoreFacts first s → MoreFacts first (rest_change at s who event reply)
rest_more first s told at who (Ask block uid moment) reply h f m = ask_more first s told who block uid moment (has block s.damaged) (has block s.compressed) reply h m
rest_more first s told at who (Poll serial moment) reply h f m = poll_more first s who serial reply m
rest_more first s told at who (Cancel serial) reply h f m = cancel_more first s who serial reply m
rest_more first s told at who (Claim window places) reply h f m = m
rest_more first s told at who (PutData window index digest) reply h f m = put_data_more first s told at window index digest reply h f m
rest_more first s told at who (PutPlace window index) reply h f m = put_place_more first s told at window index reply h m
rest_more first s told at who (Settle window) reply h f m = settle_more first s at reply f m
rest_more first s told at who (Gate window index) reply h f m = gate_more first s told at window index (count_by (waits_on index) s.reads) reply h f m
rest_more first s told at who (Release window) reply h f m = release_more first s window m
rest_more first s told at who (TakePending after most) reply h f m = m
rest_more first s told at who (SetTimes uid times) reply h f m = times_more first s told uid times reply h m
rest_more first s told at who (Ranges start end room) reply h f m = m
rest_more first s told at who Count reply h f m = m
rest_more first s told at who Leave reply h f m = leave_more first s reply m

pub stays : (first s : FileState) (told : Bool) (at who : ℕ) (event : Event) (reply : Reply) → IsAllowed at told s who event reply → FileFacts first s → FileFacts first (change at s who event reply)
stays first s told at who event reply allowed f = claims_apart first (rest_change at s who event reply) (claims_after s.claimed event reply) (rest_stays first s told at who event reply allowed.fits f)

pub more_stays : (first s : FileState) (told : Bool) (at who : ℕ) (event : Event) (reply : Reply) → IsAllowed at told s who event reply → FileFacts first s → MoreFacts first s → MoreFacts first (change at s who event reply)
more_stays first s told at who event reply allowed f m =
    with_claims first (rest_change at s who event reply) (claims_after s.claimed event reply) (rest_more first s told at who event reply allowed.fits f m) (claims_rise s.claimed event reply m.claims)

-- ---- an opening

pub opening_facts : (s : FileState) → IsOpening s → FileFacts s s
opening_facts s o = record {
  read = record {
    done = subst (All (λ (r : ReadRow). r.done ≡ is_in r.block s.map)) (sym o.no_reads) (All-nil (λ (r : ReadRow). r.done ≡ is_in r.block s.map));
    rising = subst Rising (sym o.no_reads) (pairs_none (λ (a b : ReadRow). a.serial < b.serial));
    below = subst (All (λ (r : ReadRow). r.serial < s.next)) (sym o.no_reads) (All-nil (λ (r : ReadRow). r.serial < s.next));
  };
  opened = record {
    origin = λ index digest e. inl e;
    acknowledged_open = λ index h. sym (has_keys index s.map) ∙ subst (λ (l : List ℕ). has index l ≡ true) o.acknowledged h;
    begun_open = λ index h. absurd (none index (subst (λ (l : Digests). is_in index l ≡ true) o.none_begun h));
  };
  flying = record {
    once = subst Flying (sym o.no_flight) (pairs_none (λ (a b : FlightRow). a.index < b.index));
    rows = subst (All (RowFacts s.map s.damaged s.compressed)) (sym o.no_flight) (All-nil (RowFacts s.map s.damaged s.compressed));
  };
}
  where
    Rising : List ReadRow → Type 0
    Rising rows = AreRising rows

    Flying : List FlightRow → Type 0
    Flying rows = FlightRises rows

    none : (index : ℕ) → is_in {V = List ℕ} index [] ≡ true → ⊥
    none index e = absurd (cc)

pub opening_more : (s : FileState) → IsOpening s → MoreFacts s s
opening_more s o = record {
  same = (refl, refl, refl, refl, refl, refl);
  fills = subst (All (FillFacts s.map s.begun s.acknowledged)) (sym o.no_flight) (All-nil (FillFacts s.map s.begun s.acknowledged));
  lists = record {
    digests_rise = o.map_rises;
    begun_rises = subst KeysRise (sym o.none_begun) (pairs_none (λ (a b : ℕ × List ℕ). a.0 < b.0));
    damaged_rises = o.damaged_rises;
    compressed_rises = o.compressed_rises;
    acknowledged_rises = subst Rise (sym o.acknowledged) (keys_rise s.map o.map_rises);
    times_hold = subst HoldsTimes (sym o.no_times) (record { rise = pairs_none (λ (a b : ℕ × Times). a.0 < b.0); few = omega arith });
  };
  indices = record {
    reads_within = subst (All (λ (r : ReadRow). r.block < s.n)) (sym o.no_reads) (All-nil (λ (r : ReadRow). r.block < s.n));
    digests_within = o.map_within;
    begun_within = subst (All (λ (r : ℕ × List ℕ). r.0 < s.n + s.m)) (sym o.none_begun) (All-nil (λ (r : ℕ × List ℕ). r.0 < s.n + s.m));
    damaged_within = o.damaged_within;
    compressed_within = o.compressed_within;
    acknowledged_within = subst (All (λ index. index < s.n + s.m)) (sym o.acknowledged) (All-map (λ index. index < s.n + s.m) (λ (row : ℕ × List ℕ). row.0) s.map o.map_within);
    flight_within = subst (All (λ (r : FlightRow). r.index < s.n + s.m)) (sym o.no_flight) (All-nil (λ (r : FlightRow). r.index < s.n + s.m));
  };
  kept = record {
    opened = λ q t. subst (λ (l : List ℕ). has q l ≡ true) (sym o.acknowledged) (has_keys q s.map ∙ t);
    fresh = λ q t. absurd (none q (subst (λ (l : Digests). is_in q l ≡ true) o.none_begun t));
    same = λ q a b begun there. absurd (none_at q a (subst (λ (l : Digests). lookup q l ≡ Some a) o.none_begun begun));
  };
  apart = record {
    open_sound = o.sound;
    begun_sound = λ q t. absurd (none q (subst (λ (l : Digests). is_in q l ≡ true) o.none_begun t));
    apart = o.apart;
  };
  claims = subst WindowsRise (sym o.no_claims) (pairs_none (λ (a b : Window × ℕ). is_before a.0 b.0 ≡ true));
}
  where
    none : (index : ℕ) → is_in {V = List ℕ} index [] ≡ true → ⊥
    none index e = absurd (cc)

    none_at : (index : ℕ) (digest : List ℕ) → lookup {V = List ℕ} index [] ≡ Some digest → ⊥
    none_at index digest e = absurd (cc)

    keys_rise : (rows : Digests) → KeysRise rows → Rise (map (λ row. row.0) rows)
    keys_rise rows h = rising-map (λ (row : ℕ × List ℕ). row.0) (λ (i : ℕ). i) (λ (row : ℕ × List ℕ). row.0) (λ row. refl) rows h

-- ---- the limit

claim_change_places : (claimed : Claims) (window : Window) (places : ℕ) (reply : Reply) → all_places (claim_change claimed window places reply) ≤ all_places claimed + places
claim_change_places claimed window places Claimed = let e = claim_places window places claimed in omega arith
claim_change_places claimed window places reply = omega arith

spent : (claimed : Claims) (window : Window) → 1 + all_places (spend window claimed) ≤ all_places claimed + cond (eqb (places_left window claimed) 0) 1 0
spent claimed window = step (eqb (places_left window claimed) 0) (spend_places window claimed)
  where
    step : (b : Bool) → all_places (spend window claimed) + cond b 0 1 ≡ all_places claimed → 1 + all_places (spend window claimed) ≤ all_places claimed + cond b 1 0
    step true e = omega arith
    step false e = omega arith

freed : (claimed : Claims) (window : Window) → 1 + all_places (unclaim window claimed) ≤ all_places claimed + cond (eqb (places_left window claimed) 0) 1 0
freed claimed window = step (eqb (places_left window claimed) 0) refl
  where
    step : (b : Bool) → eqb (places_left window claimed) 0 ≡ b → 1 + all_places (unclaim window claimed) ≤ all_places claimed + cond b 1 0
    step true t = let le = unclaim_places window claimed in omega arith
    step false t = let le = unclaim_places window claimed in let some = eqb-false (places_left window claimed) 0 t in omega arith

-- an entry and the places left after it take what was claimed and needed
pub places_after : (claimed : Claims) (event : Event) (reply : Reply) → 1 + all_places (claims_after claimed event reply) ≤ all_places claimed + needs claimed event
places_after claimed (Claim window places) reply = let le = claim_change_places claimed window places reply in omega arith
places_after claimed (PutData window index digest) reply = spent claimed window
places_after claimed (PutPlace window index) reply = spent claimed window
places_after claimed (Settle window) reply = spent claimed window
places_after claimed (Gate window index) reply = spent claimed window
places_after claimed (Release window) reply = freed claimed window
places_after claimed (Ask block uid moment) reply = omega arith
places_after claimed (Poll serial moment) reply = omega arith
places_after claimed (Cancel serial) reply = omega arith
places_after claimed (TakePending after most) reply = omega arith
places_after claimed (SetTimes uid times) reply = omega arith
places_after claimed (Ranges start end room) reply = omega arith
places_after claimed Count reply = omega arith
places_after claimed Leave reply = omega arith

pub limit_stays : (at : ℕ) (s : FileState) (who : ℕ) (event : Event) (reply : Reply) → HasRoom at s event → (at + 1) + all_places (change at s who event reply).claimed ≤ MOST_ENTRIES
limit_stays at s who event reply room = let le = places_after s.claimed event reply in omega arith
