use Rattle.std.proofs.Common.{◌≡◌, List, [], ◌∷◌, ◌++◌, Some, refl, ap, ◌∙◌}
use Rattle.inc_model.specs.declared.words.reply.Entry.{Entry}
use Rattle.inc_model.specs.histories.Machines.{Grows}
use Rattle.inc_turn.proofs.tests.TallyMachine.step.Goals as goal

grows_by : (before now after : List Entry) (entry : Entry) → now ≡ before → after ≡ now ++ entry ∷ [] → Grows entry.who before after
grows_by before now after entry kept pushed = record { entry = Some entry; own = refl; joined = pushed ∙ ap (λ (es : List Entry). es ++ entry ∷ []) kept }

pub returns : goal.returns
returns c = grows_by c.args.self.now.entries.items c.reserve.new.self.items c.push_reserved.new.self.items _ c.reserve.ensures.items c.push_reserved.ensures.items
