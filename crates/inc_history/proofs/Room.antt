-- Which events of a file without a device find room.
use Rattle.std.proofs.Common.{◌≡◌, ℕ, ◌+◌, ◌≤◌, Bool, true, false, ◌||◌, List, Option, Some, None, refl, sym, ap, subst, arith}
use Rattle.std.specs.Prelude.{is_some, is_none, Result, Err}
use Rattle.std.proofs.lemmas.Bool.{false≢true}
use Rattle.inc_model.specs.declared.words.event.Event.{Event}
use Rattle.inc_model.specs.declared.words.file_state.FileState.{FileState}
use Rattle.inc_model.specs.declared.words.reply.Entry.{Entry}
use Rattle.inc_model.specs.declared.words.reply.Reply.{Reply}
use Rattle.inc_model.specs.relation.State.{all_places}
use Rattle.inc_model.specs.relation.Changes.{change}
use Rattle.inc_model.specs.relation.Step.{needs}
use Rattle.inc_model.specs.executed.CoreState.{CoreState, MayWantMemory}
use Rattle.inc_history.specs.declared.pure_file.PureFault.{PureFault}
use Rattle.inc_history.specs.declared.pure_file.PureFault.TheVariants.{OutOfMemory}
use Rattle.inc_history.specs.PureState.{Pure, KeepsPure, HasPlaces, first_of}
use Rattle.inc_history.specs.PureStep.{PureSteps, WantsMemory}
use Rattle.inc_model.proofs.facts_kept.Step.{places_after}
use Rattle.inc_model.proofs.executed.Room.{some_claimed, wants_none}

pub or_left : (a b : Bool) → a ≡ true → (a || b) ≡ true
or_left true b e = refl
or_left false b e = absurd (false≢true e)

pub or_right : (a b : Bool) → b ≡ true → (a || b) ≡ true
or_right true b e = refl
or_right false b e = e

-- ---- what stays while room is taken

pub keeps_more : (first now : Option FileState) (core new : CoreState) (history : List Entry) (spare more : ℕ) (ready : Bool) → KeepsPure first core history spare ready → now ≡ Some (first_of first core.state) → new.state ≡ core.state → core.room ≤ new.room → spare ≤ more → KeepsPure now new history more ready
keeps_more first now core new history spare more ready keeps now-is same grown wider = record {
  pure = rw (now-is, same) keeps.pure;
  places = λ r. let had = keeps.places r in let a = had.room in let b = had.entries in record {
    room = rw same (omega arith);
    entries = rw same (omega arith);
    kept = λ some. ap (λ (o : Option FileState). is_some o) now-is;
  };
}

-- after the entry each place that is claimed has its room, if it had before or room was made
pub places_more : (first : Option FileState) (core made-core new : CoreState) (spare made-spare more at who : ℕ) (event : Event) (reply : Reply) (ready made : Bool) (now : FileState) (kept : Option FileState) → (ready ≡ true → HasPlaces first core spare) → kept ≡ Some now → made-core.state ≡ core.state → core.room ≤ made-core.room → spare ≤ made-spare → (made ≡ true → all_places core.state.claimed + needs core.state.claimed event ≤ made-core.room) → (made ≡ true → all_places core.state.claimed + needs core.state.claimed event ≤ made-spare) → (made ≡ false → needs core.state.claimed event ≡ 0) → new.state ≡ change at core.state who event reply → made-core.room ≤ new.room + 1 → made-spare ≤ more + 1 → (ready || made) ≡ true → HasPlaces kept new more
places_more first core made-core new spare made-spare more at who event reply ready true now kept had kept-is same grown wider core_room entry_room none new-is after less t =
    let le = places_after core.state.claimed event reply in
    let a = core_room refl in
    let b = entry_room refl in
    record { room = rw new-is (omega arith); entries = rw new-is (omega arith); kept = λ some. ap (λ (o : Option FileState). is_some o) kept-is }
places_more first core made-core new spare made-spare more at who event reply true false now kept had kept-is same grown wider core_room entry_room none new-is after less t =
    let le = places_after core.state.claimed event reply in
    let zero = none refl in
    let places = had refl in
    let a = places.room in
    let b = places.entries in
    record { room = rw new-is (omega arith); entries = rw new-is (omega arith); kept = λ some. ap (λ (o : Option FileState). is_some o) kept-is }
places_more first core made-core new spare made-spare more at who event reply false false now kept had kept-is same grown wider core_room entry_room none new-is after less t = absurd (cc)

-- ---- what an event that needs no place beside those claimed doesn't lack

module _ (first : Option FileState) (core : CoreState) (spare : ℕ) (event : Event) (places : HasPlaces first core spare) (none : needs core.state.claimed event ≡ 0) where
  pub copied : is_none first ≡ true → ⊥
  copied e = step first (places.kept (some_claimed core.state.claimed event none)) e
    where
      step : (o : Option FileState) → is_some o ≡ true → is_none o ≡ true → ⊥
      step (Some s) there gone = false≢true gone
      step None there gone = false≢true there

  pub fits_entries : spare ≡ 0 → ⊥
  fits_entries e = let some = some_claimed core.state.claimed event none in let le = places.entries in omega arith

  pub fits_core : (room : ℕ) → core.room ≤ room → MayWantMemory event room → ⊥
  fits_core room le h = let some = some_claimed core.state.claimed event none in let fits = places.room in wants_none core.state.claimed event room none (omega arith) h

pub wants : (old new : Pure) (who : ℕ) (event : Event) (result : Result Reply PureFault) → result ≡ Err OutOfMemory → WantsMemory old who event new → PureSteps old who event result new
wants old new who event result e h = subst (λ (r : Result Reply PureFault). PureSteps old who event r new) (sym e) h
