-- The number of each refusal, and the node that goes with it. Assumes nothing.
use Rattle.std.specs.Prelude.{ℕ, [], ◌∷◌}
use Rattle.refusal.specs.Rows.{RowData, bare}
use Rattle.refusal.specs.declared.value.Value.TheVariants.{Node}
use Rattle.usage.specs.Refusals.{row_of as tariff_row}
use Rattle.draft.specs.declared.refusing.Refusal.{Refusal}
use Rattle.draft.specs.declared.refusing.Refusal.TheVariants.{NoSuchNode, Tariff, BranchPriced, BranchShared, NoPrice}

-- a row that names a node
abbrev pub names : ℕ → ℕ → RowData
names number k = record { number = number; values = Node k ∷ [] }

abbrev pub row_of : Refusal → RowData
row_of NoSuchNode = bare 34
row_of (Tariff refusal) = tariff_row refusal
row_of (BranchPriced k) = names 100 k
row_of (BranchShared k) = names 110 k
row_of (NoPrice k) = names 120 k
