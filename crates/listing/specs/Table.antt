-- Which rows of the table decline a list call. Assumes nothing.
use Rattle.std.specs.Prelude.{◌≡◌, ℕ, ◌<◌, ◌⊎◌}
use Rattle.refusal.specs.Rows.{RowData, bare}
use Rattle.usage.specs.UsesLists.{UsesList}
use Rattle.catalogue.specs.Table.{Higher}
use Rattle.listing.specs.Enquiries.{EnquiryData, SoundValues}

-- a row holds for a list call on so many places, with so many lines lent
pub data ListRow (places room : ℕ) (q : EnquiryData) : RowData → Type 0 where
  -- 20: list length 0 or over 20
  bad_length : (q.length ≡ 0) ⊎ (20 < q.length) → ListRow places room q (bare 20)
  -- 22: a day over 65,534, a network or contract over 2, a term over 60
  bad_values : (SoundValues q → ⊥) → ListRow places room q (bare 22)
  -- 24: line memory below the number of places
  short_memory : room < places → ListRow places room q (bare 24)
  -- 30: uses not 16, or one too large
  bad_uses : (UsesList q.estimate → ⊥) → ListRow places room q (bare 30)

-- the call is declined by the topmost row that holds
pub record ListDeclined (places room : ℕ) (q : EnquiryData) (row : RowData) : Type 0 where
  pub holds : ListRow places room q row
  pub topmost : (other : RowData) → ListRow places room q other → Higher other.number row.number → ⊥

-- no row holds
abbrev pub ListNoCause : ℕ → ℕ → EnquiryData → Type 0
ListNoCause places room q = (row : RowData) → ListRow places room q row → ⊥
