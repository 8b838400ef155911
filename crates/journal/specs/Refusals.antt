-- The number of each refusal, and the values that go with it. Assumes nothing.
use Rattle.refusal.specs.Rows.{RowData}
use Rattle.catalogue.specs.Refusals.{row_of as catalogue_row}
use Rattle.listing.specs.Refusals.{row_of as list_row}
use Rattle.journal.specs.declared.refusing.Refusal.{Refusal}
use Rattle.journal.specs.declared.refusing.Refusal.TheVariants.{Catalogue, List}

abbrev pub row_of : Refusal → RowData
row_of (Catalogue e) = catalogue_row e
row_of (List e) = list_row e
