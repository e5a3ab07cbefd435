use Rattle.std.proofs.Common.{◌≡◌, ◌+◌, ◌-◌, ◌<◌, ◌≤◌, ◌++◌, [], ◌∷◌, true, false, Some, Err, length, refl, subst, sym, ◌∙◌, rules, arith, vec_len, vec_capacity}
use Rattle.inc_history.specs.declared.pure_file.PureFault.TheVariants.{OutOfMemory}
use Rattle.inc_model.specs.declared.words.reply.Reply.TheVariants.{NotYet}
use Rattle.inc_model.specs.relation.State.{all_places}
use Rattle.inc_model.specs.relation.Table.{reply_of}
use Rattle.inc_model.specs.relation.Changes.{change}
use Rattle.inc_model.specs.relation.Step.{HasRoom, IsKept, needs}
use Rattle.inc_history.specs.PureStep.{Replies, PureSteps}
use Rattle.inc_history.specs.PureState.{Pure, first_of}
use Rattle.inc_model.proofs.executed.OwnReplies.{own_allowed}
use Rattle.inc_history.proofs.PureFiles.{pure_more, pure_replies}
use Rattle.inc_history.proofs.Room.{wants, copied, fits_entries, fits_core, places_more, or_left, or_right}
use Rattle.inc_history.proofs.pure_file.PureFileMachine.step.Goals as goal

pub returns-in_err-keep_first : goal.returns-in_err-keep_first
returns-in_err-keep_first c =
    let spare = vec_capacity c.self.inside.entries - vec_len c.self.inside.entries in
    let old : Pure = record { first = first_of c.self.inside.first c.self.inside.core.state; now = c.self.inside.core.state; history = c.self.inside.entries.items; ready = c.self.inside.ready } in
    let new : Pure = record { first = first_of c.keep_first.new.first c.self.inside.core.state; now = c.self.inside.core.state; history = c.self.inside.entries.items; ready = c.self.inside.ready } in
    let failed : c.from_residual-in_err-keep_first.result ≡ Err OutOfMemory = search rules in
    let answers : reply_of old.now c.args.who c.args.event ≡ NotYet → ⊥ = search rules in
    let same : new ≡ old = search rules in
    subst (λ (o : Pure). PureSteps o c.args.who c.args.event c.from_residual-in_err-keep_first.result new) c.self.view_is
    (wants old new c.args.who c.args.event c.from_residual-in_err-keep_first.result failed
    (record { same = same; answers = answers; unclaimed = λ ready none. copied c.self.inside.first c.self.inside.core spare c.args.event (c.self.invariant.places ready) none c.in_err-keep_first.ensures.memory }))

pub returns-in_err-made : goal.returns-in_err-made
returns-in_err-made c =
    let spare = vec_capacity c.self.inside.entries - vec_len c.self.inside.entries in
    let old : Pure = record { first = first_of c.self.inside.first c.self.inside.core.state; now = c.self.inside.core.state; history = c.self.inside.entries.items; ready = c.self.inside.ready } in
    let new : Pure = record { first = first_of c.keep_first.new.first c.take_room.new.core.state; now = c.take_room.new.core.state; history = c.take_room.new.entries.items; ready = c.self.inside.ready } in
    let failed : c.from_residual-in_err-made.result ≡ Err OutOfMemory = search rules in
    let answers : reply_of old.now c.args.who c.args.event ≡ NotYet → ⊥ = search rules in
    let same : new ≡ old = search rules in
    subst (λ (o : Pure). PureSteps o c.args.who c.args.event c.from_residual-in_err-made.result new) c.self.view_is
    (wants old new c.args.who c.args.event c.from_residual-in_err-made.result failed
    (record { same = same; answers = answers; unclaimed = λ ready none. let full = c.in_err-made.ensures.memory none in fits_entries c.self.inside.first c.self.inside.core spare c.args.event (c.self.invariant.places ready) none (omega arith) }))

pub returns-in_err-apply : goal.returns-in_err-apply
returns-in_err-apply c =
    let spare = vec_capacity c.self.inside.entries - vec_len c.self.inside.entries in
    let old : Pure = record { first = first_of c.self.inside.first c.self.inside.core.state; now = c.self.inside.core.state; history = c.self.inside.entries.items; ready = c.self.inside.ready } in
    let new : Pure = record { first = first_of c.keep_first.new.first c.apply.new.self.state; now = c.apply.new.self.state; history = c.take_room.new.entries.items; ready = c.self.inside.ready } in
    let failed : c.from_residual-in_err-apply.result ≡ Err OutOfMemory = search rules in
    let answers : reply_of old.now c.args.who c.args.event ≡ NotYet → ⊥ = search rules in
    let same : new ≡ old = search rules in
    let grown : c.self.inside.core.room ≤ c.take_room.new.core.room = search rules in
    subst (λ (o : Pure). PureSteps o c.args.who c.args.event c.from_residual-in_err-apply.result new) c.self.view_is
    (wants old new c.args.who c.args.event c.from_residual-in_err-apply.result failed
    (record { same = same; answers = answers; unclaimed = λ ready none. fits_core c.self.inside.first c.self.inside.core spare c.args.event (c.self.invariant.places ready) none c.take_room.new.core.room grown c.in_err-apply.ensures.memory }))

pub invariant_of-self-2 : goal.invariant_of-self-2
invariant_of-self-2 c =
    let now = c.self.inside.core.state in
    let history = c.self.inside.entries.items in
    let reply = c.in_ok-reply.reply in
    let made = c.in_ok-made.made in
    let spare = vec_capacity c.self.inside.entries - vec_len c.self.inside.entries in
    let made-spare = vec_capacity c.take_room.new.entries - vec_len c.take_room.new.entries in
    let more = vec_capacity c.push.new.self - vec_len c.push.new.self in
    let room : HasRoom (length history) now c.args.event = search rules in
    let is : reply ≡ reply_of now c.args.who c.args.event = search rules in
    let kept : IsKept reply = search rules in
    let first : c.keep_first.new.first ≡ Some (first_of c.self.inside.first now) = search rules in
    let same : c.take_room.new.core.state ≡ now = search rules in
    let new-is : c.apply.new.self.state ≡ change (length history) now c.args.who c.args.event reply = search rules in
    let items : c.push.new.self.items ≡ history ++ record { who = c.args.who; event = c.args.event; reply = reply } ∷ [] = search rules in
    let allowed = own_allowed (length history) now c.args.who c.args.event reply c.requires room is in
    let grown : c.self.inside.core.room ≤ c.take_room.new.core.room = search rules in
    let wider : spare ≤ made-spare = search rules in
    let core_room : made ≡ true → all_places now.claimed + needs now.claimed c.args.event ≤ c.take_room.new.core.room = search rules in
    let entry_room : made ≡ true → all_places now.claimed + needs now.claimed c.args.event ≤ made-spare = search rules in
    let none : made ≡ false → needs now.claimed c.args.event ≡ 0 = search rules in
    let after : c.take_room.new.core.room ≤ c.apply.new.self.room + 1 = search rules in
    let less : made-spare ≤ more + 1 = search rules in
    rw items
    (record {
      pure = rw first (pure_more (first_of c.self.inside.first now) now c.apply.new.self.state history (record { who = c.args.who; event = c.args.event; reply = reply }) c.self.invariant.pure allowed kept new-is);
      places = λ ready.
          places_more c.self.inside.first c.self.inside.core c.take_room.new.core c.apply.new.self spare made-spare more (length history) c.args.who c.args.event reply c.self.inside.ready made (first_of c.self.inside.first now) c.keep_first.new.first c.self.invariant.places first same grown wider core_room entry_room none new-is after less (sym c.is_either-ready.ensures.value ∙ ready);
    })

pub returns : goal.returns
returns c =
    let now = c.self.inside.core.state in
    let history = c.self.inside.entries.items in
    let reply = c.in_ok-reply.reply in
    let made = c.in_ok-made.made in
    let room : HasRoom (length history) now c.args.event = search rules in
    let is : reply ≡ reply_of now c.args.who c.args.event = search rules in
    let kept : IsKept reply = search rules in
    let first : c.keep_first.new.first ≡ Some (first_of c.self.inside.first now) = search rules in
    let new-is : c.apply.new.self.state ≡ change (length history) now c.args.who c.args.event reply = search rules in
    let items : c.push.new.self.items ≡ history ++ record { who = c.args.who; event = c.args.event; reply = reply } ∷ [] = search rules in
    let taken : 0 < needs now.claimed c.args.event → made ≡ true = search rules in
    let allowed = own_allowed (length history) now c.args.who c.args.event reply c.requires room is in
    let old : Pure = record { first = first_of c.self.inside.first now; now = now; history = history; ready = c.self.inside.ready } in
    let new : Pure = record { first = first_of c.keep_first.new.first c.apply.new.self.state; now = c.apply.new.self.state; history = c.push.new.self.items; ready = c.is_either-ready.result } in
    let either = c.is_either-ready.ensures.value in
    let so : Replies old c.args.who c.args.event reply new =
    pure_replies old new c.args.who c.args.event reply allowed kept is new-is items (rw first refl) (λ ready. either ∙ or_left c.self.inside.ready made ready) (λ _ some. either ∙ or_right c.self.inside.ready made (taken some)) in
    subst (λ (o : Pure). Replies o c.args.who c.args.event reply new) c.self.view_is so
