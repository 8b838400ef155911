-- Tables of prices, by their numbers. Assumes nothing.
use Rattle.std.specs.Prelude.{ℕ, ◌*◌, Bool, List, [], map, replicate, is_some, Some, None, Option, slice_index_or}
use Rattle.usage.specs.Groups.{GroupData}
use Rattle.usage.specs.Held.{held}
use Rattle.usage.specs.UsesLists.{cleared}
use Rattle.prices.specs.OverSeats.{over_seats, entry_cost}
use Rattle.prices.specs.declared.amounts.UnitPrice.{UnitPrice}
use Rattle.prices.specs.declared.table.PriceTable.{PriceTable}

-- a fixed sum, a unit price or none for each seat, and groups by ascending order
pub record TableData : Type 0 where
  pub fixed : ℕ
  pub prices : List (Option ℕ)
  pub groups : List GroupData

abbrev pub price_of : Option UnitPrice → Option ℕ
price_of None = None
price_of (Some p) = Some p.price

abbrev pub price_data : List (Option UnitPrice) → List (Option ℕ)
price_data ps = map price_of ps

abbrev pub table_data : PriceTable → TableData
table_data t = record { fixed = t.fixed.hundredths; prices = price_data t.prices; groups = held t.groups }

-- no sum, no prices, no groups
abbrev pub empty_table : TableData
empty_table = record { fixed = 0; prices = replicate 16 None; groups = [] }

-- a seat has a unit price
abbrev pub has_price : List (Option ℕ) → ℕ → Bool
has_price ps k = is_some (slice_index_or ps k None)

-- what so many parts cost at a seat
abbrev pub seat_cost : Option ℕ → ℕ → ℕ
seat_cost p parts = entry_cost (λ price u. u * price) p parts

-- each priced seat's parts times its price
abbrev pub priced_cost : List (Option ℕ) → List ℕ → ℕ
priced_cost ps us = over_seats seat_cost ps us

-- the seats that have a price
abbrev pub priced_seats : List (Option ℕ) → List Bool
priced_seats ps = map is_some ps

-- the list of uses with the priced seats at 0
abbrev pub without_priced : List (Option ℕ) → List ℕ → List ℕ
without_priced ps us = cleared (priced_seats ps) us
