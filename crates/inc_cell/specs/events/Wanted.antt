-- What the disk makes of the reply that the table gives: that reply, with its place where a block was put, or a fault.
use Rattle.std.specs.Prelude.{◌≡◌, true}
use Rattle.inc_model.specs.relation.Step.{Agrees, may_fail}
use Rattle.inc_model.specs.declared.words.reply.Reply.{Reply}
use Rattle.inc_model.specs.declared.words.reply.Reply.TheVariants.{Fault, Gated, Placed, Put}

-- a fault comes in place of a reply for which the disk writes, syncs or reads
abbrev pub ComesOf : Reply → Reply → Type 0
ComesOf wanted (Fault count) = may_fail wanted ≡ true
ComesOf wanted reply = Agrees true wanted reply

-- the table gives no fault
abbrev pub IsNoFault : Reply → Type 0
IsNoFault (Fault count) = ⊥
IsNoFault reply = Unit {0}

-- ---- where the disk is called

abbrev pub IfPut : Reply → Type 0 → Type 0
IfPut (Put place digest) P = P
IfPut reply P = Unit {0}

abbrev pub IfPlaced : Reply → Type 0 → Type 0
IfPlaced Placed P = P
IfPlaced reply P = Unit {0}

abbrev pub IfGated : Reply → Type 0 → Type 0
IfGated (Gated waiting) P = P
IfGated reply P = Unit {0}
