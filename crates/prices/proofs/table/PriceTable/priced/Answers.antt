use Rattle.std.proofs.Common.{is_some, None, ◌∙◌, rules}
use Rattle.usage.proofs.Arrays.{from_fn_is}
use Rattle.prices.proofs.Sums.{is_some_price}
use Rattle.prices.proofs.table.PriceTable.priced.Goals as goal

pub returns : goal.returns
returns c =
    let prices = c.args.self.now.prices in
    c.new.ensures
    ∙ from_fn_is _ _ is_some prices None (λ j y q w. search rules) _ 16 c.from_fn-flags.ensures.items c.args.self.now.seats
    ∙ is_some_price prices
