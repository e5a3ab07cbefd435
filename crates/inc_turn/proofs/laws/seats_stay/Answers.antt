use Rattle.inc_turn.proofs.SeatLemmas.{same_seat_twice, all_seats_stay}
use Rattle.inc_turn.proofs.laws.seats_stay.Goals as goal

pub returns-clause-joined : goal.returns-clause-joined
returns-clause-joined g c = same_seat_twice

pub returns-clause-all : goal.returns-clause-all
returns-clause-all g c = all_seats_stay
