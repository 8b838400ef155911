-- Totals, in ten-millionths of the currency. Assumes nothing.
use Rattle.std.specs.Prelude.{Bool, List, ℕ}

-- no total and no floor is above 10^18
abbrev pub most : ℕ
most = 1000000000000000000

-- an offer's total, by what its tariff draws and charges: the charge for the drawn estimate
abbrev pub offer_total : (List ℕ → List ℕ) → (List ℕ → ℕ) → List ℕ → ℕ
offer_total drawn charged us = charged (drawn us)

-- the four meanings of a kind of tariff, together
pub record Meaning (T : Type 0) : Type 0 where
  pub served : T → ℕ → Bool
  pub drawn : T → List ℕ → List ℕ
  pub charged : T → List ℕ → ℕ
  pub floor : T → ℕ

abbrev pub meaning : {T : Type 0} → (T → ℕ → Bool) → (T → List ℕ → List ℕ) → (T → List ℕ → ℕ) → (T → ℕ) → Meaning T
meaning s d c f = record { served = s; drawn = d; charged = c; floor = f }
