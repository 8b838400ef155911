use Rattle.std.proofs.Common.{◌≡◌, ℕ, ◌<◌, ◌≤◌, length, take}
use Rattle.tariff.specs.Totals.{meaning}
use Rattle.stages.specs.Stages.{gathering}
use Rattle.ranking.specs.Costing.{EndsBefore}
use Rattle.ranking.specs.Steps.{gathered}
use Rattle.listing.specs.Requests.{offers_for}
use Rattle.listing.proofs.request.Request.gather.Given as goal

abbrev pub invariant-loop-costed : goal.invariant-loop-costed
invariant-loop-costed g l =
    let os = offers_for (meaning g.T.Tariff.served g.T.Tariff.drawn g.T.Tariff.charged g.T.Tariff.floor) l.self in
    let wanted = l.self.enquiry.now.length in
    record {
      within : l.costed ≤ length l.waiting;
      long : length l.memory ≡ length l.initial.memory;
      stands : l.stage ≡ gathering wanted l.costed;
      lines : take l.costed l.memory ≡ gathered os (take l.costed l.waiting);
      goes_on : (k : ℕ) → k < l.costed → EndsBefore wanted os l.waiting k → ⊥;
    }
