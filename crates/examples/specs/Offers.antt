-- The plan, the option and the estimate of the first worked example. Assumes nothing.
use Rattle.std.specs.Prelude.{ℕ, Bool, true, false, List, [], ◌∷◌, replicate, Some, None}
use Rattle.usage.specs.Groups.{group_data, with_group}
use Rattle.prices.specs.Tables.{TableData}

-- the flags of the first three seats, none of the others
abbrev pub flags : Bool → Bool → Bool → List Bool
flags a b c = a ∷ b ∷ c ∷ replicate 13 false

-- 10.00; A 0.1, B 0.2; a group of 50 units over A and B
abbrev pub plan_table : TableData
plan_table =
    record {
      fixed = 1000;
      prices = Some 1000 ∷ Some 2000 ∷ replicate 14 None;
      groups = with_group (group_data (flags true true false) 50 1) [];
    }

-- 2.00; C 0.15, F 0.5; 500 units over B and C, then 10 over C: entered in the other order
abbrev pub option_table : TableData
option_table =
    record {
      fixed = 200;
      prices = None ∷ None ∷ Some 1500 ∷ Some 5000 ∷ replicate 12 None;
      groups = with_group (group_data (flags false true true) 500 1) (with_group (group_data (flags false false true) 10 2) []);
    }

-- A 100 units, B 500, C 200, F 10, in parts
abbrev pub estimate : List ℕ
estimate = 100000 ∷ 500000 ∷ 200000 ∷ 10000 ∷ replicate 12 0
