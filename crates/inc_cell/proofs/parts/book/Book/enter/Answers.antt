use Rattle.std.proofs.Common.{◌≡◌, ◌+◌, ◌-◌, ◌<◌, ◌≤◌, ◌++◌, [], ◌∷◌, min, false, length, sym, subst, rules, arith, vec_len, vec_capacity}
use Rattle.inc_model.specs.relation.Changes.{change}
use Rattle.inc_model.specs.relation.State.{all_places}
use Rattle.inc_model.specs.relation.Step.{IsAllowed, needs}
use Rattle.inc_model.proofs.facts_kept.Step.{places_after}
use Rattle.inc_cell.specs.seen.Books.{BookView, IsReady}
use Rattle.inc_cell.proofs.steps.BookLemmas.{book_keeps}
use Rattle.inc_cell.proofs.parts.book.Book.enter.Goals as goal

pub unwrap-requires : goal.unwrap-requires
unwrap-requires c =
    let claimed = c.self.inside.core.state.claimed in
    let ready : all_places claimed + needs claimed c.args.event ≤ min c.self.inside.core.room (vec_capacity c.self.inside.entries - vec_len c.self.inside.entries) = subst (λ (b : BookView). IsReady b c.args.event) (sym c.self.view_is) c.requires.ready in
    let le = places_after claimed c.args.event c.args.reply.now in
    let room : vec_len c.self.inside.entries < vec_capacity c.self.inside.entries = omega arith in
    c.push.ensures.succeeds room

pub invariant_of-self-2 : goal.invariant_of-self-2
invariant_of-self-2 c =
    let state = c.self.inside.core.state in
    let history = c.self.inside.entries.items in
    let room = min c.self.inside.core.room (vec_capacity c.self.inside.entries - vec_len c.self.inside.entries) in
    let spare = vec_capacity c.push.new.self - vec_len c.push.new.self in
    let ready : all_places state.claimed + needs state.claimed c.args.event ≤ room = subst (λ (b : BookView). IsReady b c.args.event) (sym c.self.view_is) c.requires.ready in
    let allowed : IsAllowed (length history) false state c.args.who c.args.event c.args.reply.now =
    subst (λ (b : BookView). IsAllowed (length b.history) false b.state c.args.who c.args.event c.args.reply.now) (sym c.self.view_is) c.requires.allowed in
    let now-is : c.apply.new.self.state ≡ change (length history) state c.args.who c.args.event c.args.reply.now = search rules in
    let items : c.push.new.self.items ≡ history ++ record { who = c.args.who; event = c.args.event; reply = c.args.reply.now } ∷ [] = search rules in
    let after : c.self.inside.core.room ≤ c.apply.new.self.room + 1 = search rules in
    let fewer : vec_capacity c.self.inside.entries - vec_len c.self.inside.entries ≤ spare + 1 = search rules in
    rw items (book_keeps c.args.who c.args.event c.args.reply.now state c.apply.new.self.state history room (min c.apply.new.self.room spare) c.self.invariant allowed now-is ready (omega arith))
