-- Rows of the table of refusals. Assumes nothing.
use Rattle.std.specs.Prelude.{ℕ, List, [], Option, slice_get}
use Rattle.refusal.specs.declared.value.Value.{Value}

-- a refusal's number, and the values that go with it
pub record RowData : Type 0 where
  pub number : ℕ
  pub values : List Value

-- a row with its number alone
abbrev pub bare : ℕ → RowData
bare n = record { number = n; values = [] }

-- the value at a place, counted from 0
abbrev pub value_at : List Value → ℕ → Option Value
value_at values at = slice_get values at
