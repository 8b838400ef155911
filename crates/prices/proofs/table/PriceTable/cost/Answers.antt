use Rattle.std.proofs.Common.{map, ap, ◌∙◌, arith}
use Rattle.prices.specs.Tables.{price_of, seat_cost, priced_cost}
use Rattle.prices.proofs.Sums.{sum_by_data, sum_most, price_same, seat_most}
use Rattle.prices.proofs.table.PriceTable.cost.Goals as goal

pub returns : goal.returns
returns c =
    let xs = c.args.self.now.prices in
    let us = c.parts.result in
    let e = c.cost_over_seats.ensures in
    let few = sum_most _ 100000000000000 seat_most xs us c.parts.ensures.listed.bounded in
    record {
      is = e ∙ sum_by_data price_of seat_cost _ price_same xs us ∙ ap (priced_cost (map price_of xs)) c.parts.ensures.same;
      bound = omega (arith, e, few, c.parts.ensures.listed.seats);
    }
