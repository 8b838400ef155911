-- The laws of the four kinds of tariff, by their numbers. Assumes nothing.
use Rattle.std.proofs.Common.{ℕ, ◌≤◌, List, Option, arith}
use Rattle.std.proofs.Math.Nat.{min-le_right}
use Rattle.tariff.specs.Totals.{most}
use Rattle.prices.specs.Tables.{TableData, without_priced}
use Rattle.prices.specs.Blocks.{BlockData}
use Rattle.kinds.specs.Meanings.{capped, plan_charge, plan_floor, block_charge, block_floor, addon_charge, addon_floor, reduced}

-- a capped sum is at most 10^18
pub capped_most : (sum : ℕ) → capped sum ≤ most
capped_most sum = min-le_right sum most

-- a plan's fixed sum is no more than its charge
pub plan_above : (d : TableData) (us : List ℕ) → d.fixed ≤ 1000000 → plan_floor d ≤ plan_charge d us
plan_above d us h = omega arith

pub block_above : (fixed : ℕ) (bs : List (Option BlockData)) (us : List ℕ) → fixed ≤ 1000000 → block_floor fixed ≤ block_charge fixed bs us
block_above fixed bs us h = omega arith

-- the floor below is no more than the charge below for the list with the priced seats at 0
pub addon_above : (d : TableData) (charged : List ℕ → ℕ) (floor : ℕ) (us : List ℕ) → floor ≤ charged (without_priced d.prices us) → addon_floor d floor ≤ addon_charge d charged us
addon_above d charged floor us h = omega arith

-- a reduction raises nothing, and keeps the order of two sums
pub reduced_most : (reduction sum : ℕ) → sum ≤ most → reduced reduction sum ≤ most
reduced_most reduction sum h = omega arith

pub reduced_above : (reduction floor sum : ℕ) → floor ≤ sum → reduced reduction floor ≤ reduced reduction sum
reduced_above reduction floor sum h = omega arith
