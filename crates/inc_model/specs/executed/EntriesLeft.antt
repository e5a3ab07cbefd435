-- What a reply of the table says of a device, and which entry it leaves.
use Rattle.std.specs.Prelude.{◌≡◌, ℕ, List, [], ◌∷◌}
use Rattle.inc_model.specs.declared.words.event.Event.{Event}
use Rattle.inc_model.specs.declared.words.reply.Entry.{Entry}
use Rattle.inc_model.specs.declared.words.reply.Reply.{Reply}
use Rattle.inc_model.specs.declared.words.reply.Reply.TheVariants.{NotYet, Fault, Put}

-- there is no device that could fail, and no place but 0
abbrev pub IsWithoutDevice : Reply → Type 0
IsWithoutDevice (Fault count) = ⊥
IsWithoutDevice (Put place digest) = place ≡ 0
IsWithoutDevice reply = Unit {0}

-- the entry that a reply leaves
abbrev pub entry_left : ℕ → Event → Reply → List Entry
entry_left who event NotYet = []
entry_left who event reply = record { who = who; event = event; reply = reply } ∷ []
