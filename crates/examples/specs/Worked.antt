-- The worked examples, one field each. Assumes nothing.
use Rattle.std.specs.Prelude.{◌≡◌, ℕ, ◌*◌, ◌/◌, true, List, [], ◌∷◌, replicate, Some, None}
use Rattle.usage.specs.Drawing.{draws, drawn}
use Rattle.tariff.specs.Totals.{offer_total}
use Rattle.prices.specs.Tables.{TableData, empty_table}
use Rattle.prices.specs.Blocks.{BlockData, started}
use Rattle.kinds.specs.Meanings.{plan_drawn, plan_charge, plan_floor, addon_drawn, addon_charge, addon_floor, block_charge, reduced}
use Rattle.catalogue.specs.Calls.{publish, Declined, NoCause}
use Rattle.catalogue.specs.Refusals.{shares_day}
use Rattle.stages.specs.Lines.{line_of}
use Rattle.examples.specs.Offers.{plan_table, option_table, estimate}
use Rattle.examples.specs.Lists.{Lists, fives, nines, eights, namesakes}

-- three members, in a list of three seats
abbrev pub drawn_three : ℕ → List ℕ → List ℕ
drawn_three units us = drawn (true ∷ true ∷ true ∷ []) units us

-- each share rounded by itself, as the rule does not have it
abbrev pub rounded_alone : ℕ → ℕ → List ℕ → List ℕ
rounded_alone q s [] = []
rounded_alone q s (u ∷ us) = (q * u / s) ∷ rounded_alone q s us

-- a plan of 3.00 and nothing else
abbrev pub plain_plan : TableData
plain_plan = record { fixed = 300; prices = replicate 16 None; groups = [] }

-- a block of 1,000 parts at 0.0001 a block, at seat 0
abbrev pub one_block : BlockData
one_block = record { parts = 1000; price = 1 }

pub record WorkedExamples : Type 0 where
  -- the plan under the option: the overrun by seat, the floor, and the total from the whole pile, drawing included
  pub pile_overrun : addon_drawn option_table (plan_drawn plan_table) estimate ≡ 91667 ∷ 110232 ∷ 38101 ∷ 10000 ∷ replicate 12 0
  pub pile_floor : addon_floor option_table (plan_floor plan_table) ≡ 120000000
  pub pile_total : offer_total (addon_drawn option_table (plan_drawn plan_table)) (addon_charge option_table (plan_charge plan_table)) estimate ≡ 539282500
  -- the same in the shop's pile, with an empty second option and a promotion of nothing
  pub shop_total :
      offer_total (addon_drawn empty_table (addon_drawn option_table (plan_drawn plan_table)))
      (λ us. reduced 0 (addon_charge empty_table (addon_charge option_table (plan_charge plan_table)) us)) estimate ≡ 539282500
  -- three uses of 1,000 parts and one unit: draws of 333, 333 and 334
  pub thirds : draws 1000 3000 0 (true ∷ true ∷ true ∷ []) (1000 ∷ 1000 ∷ 1000 ∷ []) ≡ 333 ∷ 333 ∷ 334 ∷ []
  pub thirds_left : drawn_three 1 (1000 ∷ 1000 ∷ 1000 ∷ []) ≡ 667 ∷ 667 ∷ 666 ∷ []
  -- rounded by itself each share would be 333, and a part of the group would be lost
  pub thirds_alone : rounded_alone 1000 3000 (1000 ∷ 1000 ∷ 1000 ∷ []) ≡ 333 ∷ 333 ∷ 333 ∷ []
  -- uses of 1, 1 and 1 part and one unit: all become 0
  pub ones : drawn_three 1 (1 ∷ 1 ∷ 1 ∷ []) ≡ 0 ∷ 0 ∷ 0 ∷ []
  -- a block of 1,000 parts at 0, 1,000 and 1,001 parts: 0, 1 and 2 blocks
  pub no_block : started 0 1000 ≡ 0
  pub whole_block : started 1000 1000 ≡ 1
  pub begun_block : started 1001 1000 ≡ 2
  pub begun_charge : block_charge 0 (Some one_block ∷ replicate 15 None) (1001 ∷ replicate 15 0) ≡ 2000
  -- a reduction of 5.00 over a floor of 3.00: a floor of 0
  pub floor_stops : reduced 500 (plan_floor plain_plan) ≡ 0
  -- totals of 5, 5 and 7: length 1 shows two lines, 2 and 3 show three
  pub two_lines : Lists fives 1 (line_of 0 5 ∷ line_of 1 5 ∷ []) 2
  pub three_lines : Lists fives 2 (line_of 0 5 ∷ line_of 1 5 ∷ line_of 2 7 ∷ []) 3
  pub all_lines : Lists fives 3 (line_of 0 5 ∷ line_of 1 5 ∷ line_of 2 7 ∷ []) 3
  -- floors of 3, 5 and 9 with totals of 8, 6 and 9, length 1: two costed, one shown, total 6
  pub early_end : Lists nines 1 (line_of 1 6 ∷ []) 2
  -- with a third floor and total of 8: three costed, one shown
  pub no_early_end : Lists eights 1 (line_of 1 6 ∷ []) 3
  -- a namesake is published for days 10 to 20: publishing days 20 to 30 is declined with 210 and its place; 21 to 30 is accepted
  pub shared_day : Declined (namesakes 20 30) (publish 1) (shares_day 0)
  pub no_shared_day : NoCause (namesakes 21 30) (publish 1)
