-- The number of the refusal; no value goes with it. Assumes nothing.
use Rattle.refusal.specs.Rows.{RowData, bare}
use Rattle.tree.specs.declared.refusing.Refusal.{Refusal}
use Rattle.tree.specs.declared.refusing.Refusal.TheVariants.{BadTree}

abbrev pub row_of : Refusal → RowData
row_of BadTree = bare 36
