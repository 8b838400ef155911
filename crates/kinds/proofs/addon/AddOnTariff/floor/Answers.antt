use Rattle.std.proofs.Common.{arith}
use Rattle.kinds.proofs.Noughts.{noughts, noughts_uses}
use Rattle.kinds.proofs.addon.AddOnTariff.floor.Goals as goal

-- the floor below is at most what is charged for a list of noughts, which is at most 10^18
pub overflow_add-amount : goal.overflow_add-amount
overflow_add-amount g c =
    let below = c.args.self.now.below in
    omega (arith, g.met.T.Tariff.above below noughts noughts_uses, g.met.T.Tariff.capped below noughts noughts_uses)
