-- The number of each refusal; no value goes with these. Assumes nothing.
use Rattle.refusal.specs.Rows.{RowData, bare}
use Rattle.stages.specs.declared.refusing.Refusal.{Refusal}
use Rattle.stages.specs.declared.refusing.Refusal.TheVariants.{ListLength, ShortMemory, NoSuchLine}

abbrev pub row_of : Refusal → RowData
row_of ListLength = bare 20
row_of ShortMemory = bare 24
row_of NoSuchLine = bare 26
