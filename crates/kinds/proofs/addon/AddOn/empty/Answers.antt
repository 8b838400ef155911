use Rattle.std.proofs.Common.{sym, refl, subst}
use Rattle.prices.specs.Tables.{TableData}
use Rattle.kinds.specs.Meanings.{addon_served, addon_drawn, addon_charge, addon_floor}
use Rattle.kinds.specs.Nothing.{ChangesNothing}
use Rattle.kinds.proofs.Noughts.{noughts, noughts_uses, empty_changes}
use Rattle.kinds.proofs.addon.AddOn.empty.Goals as goal

pub returns : goal.returns
returns g c =
    let m = g.T.Tariff in
    let met = g.met.T.Tariff in
    let t = c.args.below in
    let P : TableData → Type 0 =
    λ d. ChangesNothing (addon_served d (m.served t)) (addon_drawn d (m.drawn t)) (addon_charge d (m.charged t)) (addon_floor d (m.floor t)) (m.served t) (m.drawn t) (m.charged t) (m.floor t) in
    record {
      below = refl;
      table = c.empty.ensures;
      nothing = subst P (sym c.empty.ensures)
          (empty_changes (m.served t) (m.drawn t) (m.charged t) (m.floor t) (met.capped t) (met.above t noughts noughts_uses));
    }
