-- The number of each refusal; no value goes with these. Assumes nothing.
use Rattle.refusal.specs.Rows.{RowData, bare}
use Rattle.listing.specs.declared.refusing.Refusal.{Refusal}
use Rattle.listing.specs.declared.refusing.Refusal.TheVariants.{ListLength, BadEnquiry, ShortMemory, BadUses}

abbrev pub row_of : Refusal → RowData
row_of ListLength = bare 20
row_of BadEnquiry = bare 22
row_of ShortMemory = bare 24
row_of BadUses = bare 30
