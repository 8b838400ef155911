-- Sums over the seats. Assumes nothing.
use Rattle.std.specs.Prelude.{ℕ, ◌+◌, List, [], ◌∷◌, Some, None, Option}

-- what the uses cost together, where `cost` says what a seat's entry makes of its use
abbrev pub over_seats : {X : Type 0} → (X → ℕ → ℕ) → List X → List ℕ → ℕ
over_seats cost [] us = 0
over_seats cost (x ∷ xs) [] = 0
over_seats cost (x ∷ xs) (u ∷ us) = cost x u + over_seats cost xs us

-- what an entry or none makes of a use
abbrev pub entry_cost : {X : Type 0} → (X → ℕ → ℕ) → Option X → ℕ → ℕ
entry_cost cost None parts = 0
entry_cost cost (Some x) parts = cost x parts
