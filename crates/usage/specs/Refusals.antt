-- The number of each refusal; no value goes with these. Assumes nothing.
use Rattle.refusal.specs.Rows.{RowData, bare}
use Rattle.usage.specs.declared.refusing.Refusal.{Refusal}
use Rattle.usage.specs.declared.refusing.Refusal.TheVariants.{BadUses, EmptyGroup, OutOfRange, NinthGroup, OrderUsed}

abbrev pub row_of : Refusal → RowData
row_of BadUses = bare 30
row_of EmptyGroup = bare 34
row_of OutOfRange = bare 32
row_of NinthGroup = bare 38
row_of OrderUsed = bare 115
