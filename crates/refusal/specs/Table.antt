-- The table of refusals: the order of its rows, and how a call is declined. Assumes nothing.
use Rattle.std.specs.Prelude.{ℕ, suc, ◌<◌, cond, List, [], ◌∷◌, ◌==◌}
use Rattle.refusal.specs.Rows.{RowData}

-- the numbers, from the topmost row down
abbrev pub table : List ℕ
table = 8 ∷ 10 ∷ 12 ∷ 16 ∷ 14 ∷ 200 ∷ 18 ∷ 210 ∷ 20 ∷ 22 ∷ 24 ∷ 26 ∷ 30 ∷ 36 ∷ 34 ∷ 32 ∷ 100 ∷ 38 ∷ 115 ∷ 110 ∷ 120 ∷ 40 ∷ 42 ∷ 44 ∷ []

-- how many rows stand above a number's
abbrev pub position : ℕ → List ℕ → ℕ
position n [] = 0
position n (m ∷ ms) = cond (n == m) 0 (suc (position n ms))

abbrev pub rank : ℕ → ℕ
rank n = position n table

-- the row of m stands above that of n
abbrev pub Higher : ℕ → ℕ → Type 0
Higher m n = rank m < rank n

-- a call is declined by the topmost of the rows that hold for it: those of which Holds is true
pub record DeclinedBy (Holds : RowData → Type 0) (row : RowData) : Type 0 where
  pub holds : Holds row
  pub topmost : (other : RowData) → Holds other → Higher other.number row.number → ⊥

-- no row holds
abbrev pub NoRow : (RowData → Type 0) → Type 0
NoRow Holds = (row : RowData) → Holds row → ⊥
