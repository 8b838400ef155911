-- The list of uses with nothing used, and the add-on that changes nothing. Assumes nothing.
use Rattle.std.proofs.Common.{ℕ, zero, suc, ◌≤◌, Bool, ◌||◌, List, get_or, replicate, refl, ap, arith}
use Rattle.usage.specs.UsesLists.{UsesList}
use Rattle.tariff.specs.Totals.{most}
use Rattle.prices.specs.Tables.{empty_table}
use Rattle.prices.proofs.Sums.{nothing_priced, nothing_costs, nothing_cleared}
use Rattle.kinds.specs.Meanings.{addon_served, addon_drawn, addon_charge, addon_floor}
use Rattle.kinds.specs.Nothing.{ChangesNothing}

pub noughts : List ℕ
noughts = replicate 16 0

nought_at : (n k : ℕ) → get_or (replicate n 0) k 0 ≤ 100000000
nought_at zero k = omega arith
nought_at (suc n) zero = omega arith
nought_at (suc n) (suc k) = nought_at n k

pub noughts_uses : UsesList noughts
unfolding noughts
noughts_uses = record { seats = refl; bounded = nought_at 16 }

-- an add-on without prices, groups or sum changes nothing of a tariff that charges at most 10^18
pub empty_changes : (served : ℕ → Bool) (drawn : List ℕ → List ℕ) (charged : List ℕ → ℕ) (floor : ℕ)
    → ((us : List ℕ) → UsesList us → charged us ≤ most) → floor ≤ charged noughts
    → ChangesNothing (addon_served empty_table served) (addon_drawn empty_table drawn) (addon_charge empty_table charged) (addon_floor empty_table floor) served drawn charged floor
empty_changes served drawn charged floor capped above =
    record {
      same_seats = λ k. ap (λ (b : Bool). b || served k) (nothing_priced 16 k);
      same_overrun = λ us. refl;
      same_charge = λ us u.
          let top = capped us u in
          omega (arith, nothing_costs 16 us, ap charged (nothing_cleared 16 us));
      same_floor = let top = capped noughts noughts_uses in omega arith;
    }
