-- The events for which the disk does nothing.
use Rattle.inc_model.specs.declared.words.event.Event.{Event}
use Rattle.inc_model.specs.declared.words.event.Event.TheVariants.{Ask, Poll, Cancel, Claim, PutData, PutPlace, Settle, Gate, Release, TakePending, SetTimes, Ranges, Count, Leave}

abbrev pub IsQuietEvent : Event → Type 0
IsQuietEvent (Ask block uid moment) = Unit {0}
IsQuietEvent (Cancel serial) = Unit {0}
IsQuietEvent (Claim window count) = Unit {0}
IsQuietEvent (Release window) = Unit {0}
IsQuietEvent (TakePending after most) = Unit {0}
IsQuietEvent (SetTimes uid times) = Unit {0}
IsQuietEvent (Ranges start limit room) = Unit {0}
IsQuietEvent Count = Unit {0}
IsQuietEvent Leave = Unit {0}
IsQuietEvent (Poll serial moment) = ⊥
IsQuietEvent (PutData window index digest) = ⊥
IsQuietEvent (PutPlace window index) = ⊥
IsQuietEvent (Settle window) = ⊥
IsQuietEvent (Gate window index) = ⊥
