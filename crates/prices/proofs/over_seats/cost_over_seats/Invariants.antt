use Rattle.std.proofs.Common.{◌≡◌, ◌+◌, ◌*◌, ◌≤◌, drop}
use Rattle.prices.specs.OverSeats.{over_seats, entry_cost}
use Rattle.prices.proofs.over_seats.cost_over_seats.Given as goal

abbrev pub invariant-loop-seat : goal.invariant-loop-seat
invariant-loop-seat g l =
    (l.sum ≤ l.seat * 5000000000000000)
    × (l.sum + over_seats (entry_cost g.T.SeatCharge.cost) (drop l.seat l.entries) (drop l.seat l.parts) ≡ over_seats (entry_cost g.T.SeatCharge.cost) l.entries l.parts)
