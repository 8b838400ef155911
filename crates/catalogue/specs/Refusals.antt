-- The number of each refusal, and the place that goes with it. Assumes nothing.
use Rattle.std.specs.Prelude.{ℕ, [], ◌∷◌}
use Rattle.refusal.specs.Rows.{RowData, bare}
use Rattle.refusal.specs.declared.value.Value.TheVariants.{Place}
use Rattle.catalogue.specs.declared.refusing.Refusal.{Refusal}
use Rattle.catalogue.specs.declared.refusing.Refusal.TheVariants.{NotOpened, NoSuchPlace, BadHead, EmptyPlace, LastBeforeFirst, AlreadyPublished, StillPublished, SharesDay}

-- the row of a published namesake at the place k that would share a day
abbrev pub shares_day : ℕ → RowData
shares_day k = record { number = 210; values = Place k ∷ [] }

abbrev pub row_of : Refusal → RowData
row_of NotOpened = bare 8
row_of NoSuchPlace = bare 10
row_of BadHead = bare 12
row_of EmptyPlace = bare 16
row_of LastBeforeFirst = bare 14
row_of AlreadyPublished = bare 200
row_of StillPublished = bare 18
row_of (SharesDay k) = shares_day k
