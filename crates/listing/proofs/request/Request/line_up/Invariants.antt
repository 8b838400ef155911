use Rattle.std.proofs.Common.{◌≡◌, ◌≤◌, length, take}
use Rattle.tariff.specs.Totals.{meaning}
use Rattle.ranking.specs.Queues.{queue_below}
use Rattle.listing.specs.Requests.{offers_for}
use Rattle.listing.proofs.request.Request.line_up.Given as goal

abbrev pub invariant-loop-place : goal.invariant-loop-place
invariant-loop-place g l =
    let os = offers_for (meaning g.T.Tariff.served g.T.Tariff.drawn g.T.Tariff.charged g.T.Tariff.floor) l.self in
    record {
      few : l.count ≤ l.place;
      long : length l.waiting ≡ length l.initial.waiting;
      queued : take l.count l.waiting ≡ queue_below os l.place;
    }
