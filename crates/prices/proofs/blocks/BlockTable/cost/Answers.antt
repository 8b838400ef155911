use Rattle.std.proofs.Common.{map, ap, ◌∙◌, arith}
use Rattle.prices.specs.Blocks.{block_of, block_cost, blocks_cost}
use Rattle.prices.proofs.Sums.{sum_by_data, sum_most, block_same, block_most}
use Rattle.prices.proofs.blocks.BlockTable.cost.Goals as goal

pub returns : goal.returns
returns c =
    let xs = c.args.self.now.entries in
    let us = c.parts.result in
    let e = c.cost_over_seats.ensures in
    let few = sum_most _ 5000000000000000 block_most xs us c.parts.ensures.listed.bounded in
    record {
      is = e ∙ sum_by_data block_of block_cost _ block_same xs us ∙ ap (blocks_cost (map block_of xs)) c.parts.ensures.same;
      bound = omega (arith, e, few, c.parts.ensures.listed.seats);
    }
