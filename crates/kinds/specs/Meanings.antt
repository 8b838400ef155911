-- What each kind of tariff means, by its numbers and the meaning of the tariff below. Assumes nothing.
use Rattle.std.specs.Prelude.{ℕ, ◌+◌, ◌-◌, min, Bool, ◌||◌, List, Option}
use Rattle.usage.specs.Groups.{drawn_all}
use Rattle.tariff.specs.Totals.{most}
use Rattle.prices.specs.Amounts.{fixed_part}
use Rattle.prices.specs.Tables.{TableData, has_price, priced_cost, without_priced}
use Rattle.prices.specs.Blocks.{BlockData, has_block, blocks_cost}

-- a sum that would pass 10^18 is 10^18
abbrev pub capped : ℕ → ℕ
capped sum = min sum most

-- A plan serves its priced seats, draws its groups by ascending order, and charges its fixed sum and each priced seat's
-- parts times price. Its floor is its fixed sum.
abbrev pub plan_served : TableData → ℕ → Bool
plan_served d k = has_price d.prices k

abbrev pub plan_drawn : TableData → List ℕ → List ℕ
plan_drawn d us = drawn_all d.groups us

abbrev pub plan_charge : TableData → List ℕ → ℕ
plan_charge d us = capped (fixed_part d.fixed + priced_cost d.prices us)

abbrev pub plan_floor : TableData → ℕ
plan_floor d = fixed_part d.fixed

-- A block tariff serves the seats that have a block, draws nothing, and charges its fixed sum and every started block.
-- Its floor is its fixed sum.
abbrev pub block_served : List (Option BlockData) → ℕ → Bool
block_served bs k = has_block bs k

abbrev pub block_charge : ℕ → List (Option BlockData) → List ℕ → ℕ
block_charge fixed bs us = capped (fixed_part fixed + blocks_cost bs us)

abbrev pub block_floor : ℕ → ℕ
block_floor fixed = fixed_part fixed

-- An add-on serves its priced seats and those served below. The tariff below draws first, then the add-on's groups.
-- It charges its fixed sum, its own priced seats, and the charge below for the list with those seats at 0.
-- Its floor is its fixed sum and the floor below.
abbrev pub addon_served : TableData → (ℕ → Bool) → ℕ → Bool
addon_served d below k = has_price d.prices k || below k

abbrev pub addon_drawn : TableData → (List ℕ → List ℕ) → List ℕ → List ℕ
addon_drawn d below us = drawn_all d.groups (below us)

abbrev pub addon_charge : TableData → (List ℕ → ℕ) → List ℕ → ℕ
addon_charge d below us = capped (fixed_part d.fixed + priced_cost d.prices us + below (without_priced d.prices us))

abbrev pub addon_floor : TableData → ℕ → ℕ
addon_floor d below = capped (fixed_part d.fixed + below)

-- A promotion serves and draws as the tariff below does, and takes up to its sum off the charge and off the floor;
-- neither goes below 0.
abbrev pub reduced : ℕ → ℕ → ℕ
reduced reduction sum = sum - fixed_part reduction
