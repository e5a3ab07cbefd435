-- A fill's own entries: which they are, and how many.
use Rattle.std.proofs.Common.{◌≡◌, ℕ, suc, ◌+◌, ◌*◌, ◌<◌, ◌≤◌, Bool, true, false, cond, List, [], ◌∷◌, ◌++◌, length, Option, refl, sym, ap, subst, ◌∙◌, arith, length-append}
use Rattle.std.proofs.lemmas.List.{length-map}
use Rattle.std.proofs.lemmas.List.Elements.{filter_map-append}
use Rattle.inc_model.specs.declared.words.event.Event.{Event}
use Rattle.inc_model.specs.declared.words.event.Event.TheVariants.{Claim, Gate, PutData, PutPlace, Release, Settle}
use Rattle.inc_model.specs.declared.words.event.Window.{Window}
use Rattle.inc_model.specs.declared.words.reply.Entry.{Entry}
use Rattle.inc_model.specs.declared.words.reply.Reply.{Reply}
use Rattle.inc_model.specs.declared.words.reply.Reply.TheVariants as reply
use Rattle.inc_layout.specs.declared.opened.Opened.{Opened}
use Rattle.inc_filling.specs.Grouped.{gates_of_each, places_of_each, put_in, puts_among, puts_of, stores_of}
use Rattle.inc_filling.specs.Stands.{events_of}
use Rattle.inc_filling.specs.declared.filling.Filling.{Filling}
use Rattle.inc_filling.specs.declared.stop.FillStop.{FillStop}
use Rattle.inc_filling.specs.declared.stop.FillStop.TheVariants as stop
use Rattle.inc_handle.specs.UnderWay.{AllGoOn, GoesOnWith, IsGatedReply, IsPutReply, StopsWith, is_stored, release_entry, stored_among}
use Rattle.inc_handle.specs.declared.fill.window.PutEnd.{PutEnd}
use Rattle.inc_session.specs.DeedFills.{AreFillEntries, IsFillEntry, claimed_by, tells_failed, tells_fault, reply_count}
use Rattle.inc_session.specs.Deeds.{EachOf, HasOutcome, IsFillEvent, places_of_claim, readers_in, records_in}

-- ---- entries with which a fill goes on

abbrev Quiet : Reply → Type 0
Quiet given = (records_in given ≡ []) × ((before : Option ℕ) → readers_in before given ≡ before)

quiet_as : (given wanted : Reply) → given ≡ wanted → Quiet wanted → Quiet given
quiet_as given wanted e h = subst Quiet (sym e) h

quiet_put : (given : Reply) → IsPutReply given → Quiet given
quiet_put (reply.Put place digest) h = (refl, λ b. refl)
quiet_put reply.Present h = (refl, λ b. refl)
quiet_put (reply.Busy window) h = (refl, λ b. refl)
quiet_put given h = absurd h

quiet_gated : (given : Reply) → IsGatedReply given → Quiet given
quiet_gated (reply.Gated waiting) h = (refl, λ b. refl)
quiet_gated given h = absurd h

goes_quiet : (event : Event) (given : Reply) → GoesOnWith event given → IsFillEvent event × Quiet given
goes_quiet (Claim window places) given h = (tt, quiet_as given reply.Claimed h (refl, λ b. refl))
goes_quiet (PutData window index digest) given h = (tt, quiet_put given h)
goes_quiet (PutPlace window index) given h = (tt, quiet_as given reply.Placed h (refl, λ b. refl))
goes_quiet (Settle window) given h = (tt, quiet_as given reply.Settled h (refl, λ b. refl))
goes_quiet (Gate window index) given h = (tt, quiet_gated given h)
goes_quiet (Release window) given h = (tt, quiet_as given reply.Released h (refl, λ b. refl))
goes_quiet event given h = absurd h

pub goes_fill : (entry : Entry) → GoesOnWith entry.event entry.reply → IsFillEntry entry
goes_fill entry h = let q = goes_quiet entry.event entry.reply h in record { event_is = q.0; no_reads = q.1.0; no_readers = q.1.1 }

pub all_go_fill : (entries : List Entry) → AllGoOn entries → AreFillEntries entries
all_go_fill [] h = tt
all_go_fill (entry ∷ entries) h = (goes_fill entry h.0, all_go_fill entries h.1)

pub release_goes : (window : Window) → GoesOnWith (release_entry window).event (release_entry window).reply
release_goes window = refl

-- the entry with which it stops
stops_quiet : (given : Reply) (why : FillStop) → StopsWith given why → Quiet given
stops_quiet (reply.Failed at) why h = (refl, λ b. refl)
stops_quiet (reply.Fault count) why h = (refl, λ b. refl)
stops_quiet given why h = absurd h

pub stops_fill : (entry : Entry) (why : FillStop) → IsFillEvent entry.event → StopsWith entry.reply why → IsFillEntry entry
stops_fill entry why event h = let q = stops_quiet entry.reply why h in record { event_is = event; no_reads = q.0; no_readers = q.1 }

stops_is_fault : (given : Reply) → StopsWith given stop.DiskFault → tells_fault given ≡ true
stops_is_fault (reply.Failed at) h = absurd h
stops_is_fault (reply.Fault count) h = refl
stops_is_fault given h = absurd h

stops_is_failed : (given : Reply) (at : ℕ) → StopsWith given (stop.Failed at) → tells_failed given ≡ true
stops_is_failed (reply.Failed first) at h = refl
stops_is_failed (reply.Fault count) at h = absurd h
stops_is_failed given at h = absurd h

pub one_counted : (test : Reply → Bool) (before : List Entry) (entry : Entry) (after : List Entry) → test entry.reply ≡ true → 0 < reply_count test ((before ++ entry ∷ []) ++ after)
one_counted test [] entry after e = rw e (omega arith)
one_counted test (x ∷ before) entry after e = step (one_counted test before entry after e) (test x.reply)
  where
    step : 0 < reply_count test ((before ++ entry ∷ []) ++ after) → (b : Bool) → 0 < cond b (reply_count test ((before ++ entry ∷ []) ++ after) + 1) (reply_count test ((before ++ entry ∷ []) ++ after))
    step h true = omega arith
    step h false = h

pub fault_counted : (before : List Entry) (entry : Entry) (after : List Entry) → StopsWith entry.reply stop.DiskFault → 0 < reply_count tells_fault ((before ++ entry ∷ []) ++ after)
fault_counted before entry after h = one_counted tells_fault before entry after (stops_is_fault entry.reply h)

pub failed_counted : (before : List Entry) (entry : Entry) (after : List Entry) (at : ℕ) → StopsWith entry.reply (stop.Failed at) → 0 < reply_count tells_failed ((before ++ entry ∷ []) ++ after)
failed_counted before entry after at h = one_counted tells_failed before entry after (stops_is_failed entry.reply at h)

-- ---- outcomes

put_outcome : (window : Window) (index : ℕ) (digest : List ℕ) (given : Reply) → IsPutReply given → HasOutcome (PutData window index digest) given
put_outcome window index digest (reply.Put place put) h = tt
put_outcome window index digest reply.Present h = tt
put_outcome window index digest (reply.Busy other) h = tt
put_outcome window index digest given h = absurd h

goes_outcome : (event : Event) (given : Reply) → GoesOnWith event given → HasOutcome event given
goes_outcome (PutData window index digest) given h = put_outcome window index digest given h
goes_outcome event given h = tt

pub all_go_outcomes : (entries : List Entry) → AllGoOn entries → EachOf (λ (entry : Entry). HasOutcome entry.event entry.reply) entries
all_go_outcomes [] h = tt
all_go_outcomes (entry ∷ entries) h = (goes_outcome entry.event entry.reply h.0, all_go_outcomes entries h.1)

-- ---- places that are claimed, by events

abbrev pub claims_among : List Event → ℕ
claims_among [] = 0
claims_among (event ∷ events) = places_of_claim event + claims_among events

pub claimed_is : (entries : List Entry) → claimed_by entries ≡ claims_among (events_of entries)
claimed_is [] = refl
claimed_is (entry ∷ entries) = ap (λ (n : ℕ). places_of_claim entry.event + n) (claimed_is entries)

pub claims_both : (first second : List Event) → claims_among (first ++ second) ≡ claims_among first + claims_among second
claims_both [] second = omega arith
claims_both (event ∷ first) second = let h = claims_both first second in omega arith

pub puts_claim : (opened : Opened) (window : Window) (group : List Filling) → claims_among (puts_of opened window group) ≡ 0
puts_claim opened window [] = refl
puts_claim opened window (f ∷ fs) = let h = puts_claim opened window fs in omega arith

places_claim : (window : Window) (indices : List ℕ) → claims_among (places_of_each window indices) ≡ 0
places_claim window [] = refl
places_claim window (i ∷ is) = let h = places_claim window is in omega arith

gates_claim : (window : Window) (indices : List ℕ) → claims_among (gates_of_each window indices) ≡ 0
gates_claim window [] = refl
gates_claim window (i ∷ is) = let h = gates_claim window is in omega arith

pub stores_claim : (window : Window) (stored : List ℕ) → claims_among (stores_of window stored) ≡ 0
stores_claim window [] = refl
stores_claim window (i ∷ is) =
    let places = places_claim window is in
    let gates = gates_claim window is in
    let a = claims_both (places_of_each window is) (Settle window ∷ (Gate window i ∷ (gates_of_each window is ++ (Settle window ∷ [])))) in
    let b = claims_both (gates_of_each window is) (Settle window ∷ []) in
    omega arith

-- ---- how many

pub stores_length : (window : Window) (stored : List ℕ) → length (stores_of window stored) ≤ 2 * length stored + 2
stores_length window [] = omega arith
stores_length window (i ∷ is) =
    omega (
      arith,
      length-append (places_of_each window (i ∷ is)) (Settle window ∷ (gates_of_each window (i ∷ is) ++ (Settle window ∷ []))),
      length-append (gates_of_each window (i ∷ is)) (Settle window ∷ []),
      length-map (i ∷ is) (PutPlace window),
      length-map (i ∷ is) (Gate window),
    )

pub among_few : (indices : List ℕ) (ends : List PutEnd) → length (stored_among indices ends) ≤ length indices
among_few [] ends = omega arith
among_few (i ∷ is) [] = omega arith
among_few (i ∷ is) (end ∷ ends) = step (among_few is ends) (is_stored end)
  where
    step : length (stored_among is ends) ≤ length is → (b : Bool) → length (cond b (i ∷ stored_among is ends) (stored_among is ends)) ≤ suc (length is)
    step h true = omega arith
    step h false = omega arith

-- ---- all events of a fill are its own

abbrev pub AllFillEvents : List Event → Type 0
AllFillEvents [] = Unit {0}
AllFillEvents (event ∷ events) = IsFillEvent event × AllFillEvents events

fill_both : (first second : List Event) → AllFillEvents first → AllFillEvents second → AllFillEvents (first ++ second)
fill_both [] second h k = k
fill_both (event ∷ first) second h k = (h.0, fill_both first second h.1 k)

fill_puts : (opened : Opened) (window : Window) (group : List Filling) → AllFillEvents (puts_of opened window group)
fill_puts opened window [] = tt
fill_puts opened window (f ∷ fs) = (tt, fill_puts opened window fs)

fill_places : (window : Window) (indices : List ℕ) → AllFillEvents (places_of_each window indices)
fill_places window [] = tt
fill_places window (i ∷ is) = (tt, fill_places window is)

fill_gates : (window : Window) (indices : List ℕ) → AllFillEvents (gates_of_each window indices)
fill_gates window [] = tt
fill_gates window (i ∷ is) = (tt, fill_gates window is)

fill_stores : (window : Window) (stored : List ℕ) → AllFillEvents (stores_of window stored)
fill_stores window [] = tt
fill_stores window (i ∷ is) =
    fill_both (places_of_each window (i ∷ is)) (Settle window ∷ (gates_of_each window (i ∷ is) ++ (Settle window ∷ []))) (fill_places window (i ∷ is))
    (tt, fill_both (gates_of_each window (i ∷ is)) (Settle window ∷ []) (fill_gates window (i ∷ is)) (tt, tt))

pub fill_all : (opened : Opened) (window : Window) (places : ℕ) (group : List Filling) (stored : List ℕ) → AllFillEvents (((Claim window places ∷ []) ++ puts_of opened window group) ++ stores_of window stored)
fill_all opened window places group stored =
    fill_both ((Claim window places ∷ []) ++ puts_of opened window group) (stores_of window stored) (tt, fill_puts opened window group) (fill_stores window stored)

pub fill_last : (entries : List Entry) (last : Entry) (rest : List Event) → AllFillEvents (events_of (entries ++ last ∷ []) ++ rest) → IsFillEvent last.event
fill_last [] last rest h = h.0
fill_last (entry ∷ entries) last rest h = fill_last entries last rest h.1

-- ---- the puts among them

pub puts_both : (first second : List Event) → puts_among (first ++ second) ≡ puts_among first ++ puts_among second
puts_both first second = filter_map-append put_in first second

no_places : (window : Window) (indices : List ℕ) → puts_among (places_of_each window indices) ≡ []
no_places window [] = refl
no_places window (i ∷ is) = no_places window is

no_gates : (window : Window) (indices : List ℕ) → puts_among (gates_of_each window indices) ≡ []
no_gates window [] = refl
no_gates window (i ∷ is) = no_gates window is

pub no_stores : (window : Window) (stored : List ℕ) → puts_among (stores_of window stored) ≡ []
no_stores window [] = refl
no_stores window (i ∷ is) =
    puts_both (places_of_each window (i ∷ is)) (Settle window ∷ (gates_of_each window (i ∷ is) ++ (Settle window ∷ [])))
    ∙ ap (λ (l : List (ℕ × List ℕ)). l ++ puts_among (gates_of_each window (i ∷ is) ++ (Settle window ∷ []))) (no_places window (i ∷ is))
    ∙ puts_both (gates_of_each window (i ∷ is)) (Settle window ∷ [])
    ∙ ap (λ (l : List (ℕ × List ℕ)). l ++ []) (no_gates window (i ∷ is))
