-- Which row declines a list call. Assumes nothing.
use Rattle.std.proofs.Common.{◌≡◌, ℕ, ◌<◌, ◌≤◌, ◌⊎◌, get_or, sym, refl, ap, ◌∙◌, ⊎_elim, arith}
use Rattle.std.proofs.lemmas.Bool.{cases_order}
use Rattle.refusal.specs.Rows.{RowData, bare}
use Rattle.usage.specs.UsesLists.{UsesList}
use Rattle.catalogue.specs.Table.{table, rank, Higher}
use Rattle.listing.specs.Enquiries.{EnquiryData, SoundValues}
use Rattle.listing.specs.Table.{ListRow, bad_length, bad_values, short_memory, bad_uses, ListDeclined, ListNoCause}

module _ (places room : ℕ) (q : EnquiryData) where
  pub length_row : (q.length ≡ 0) ⊎ (20 < q.length) → ListDeclined places room q (bare 20)
  length_row out = record { holds = bad_length out; topmost = above }
    where
      above : (other : RowData) → ListRow places room q other → Higher other.number 20 → ⊥
      above _ (bad_length h) r = omega arith
      above _ (bad_values h) r = omega arith
      above _ (short_memory h) r = omega arith
      above _ (bad_uses h) r = omega arith

  in_range : 1 ≤ q.length → q.length ≤ 20 → (q.length ≡ 0) ⊎ (20 < q.length) → ⊥
  in_range low high = ⊎_elim (λ h. omega arith) (λ h. omega arith)

  pub values_row : 1 ≤ q.length → q.length ≤ 20 → (SoundValues q → ⊥) → ListDeclined places room q (bare 22)
  values_row low high out = record { holds = bad_values out; topmost = above }
    where
      above : (other : RowData) → ListRow places room q other → Higher other.number 22 → ⊥
      above _ (bad_length h) r = in_range low high h
      above _ (bad_values h) r = omega arith
      above _ (short_memory h) r = omega arith
      above _ (bad_uses h) r = omega arith

  pub memory_row : 1 ≤ q.length → q.length ≤ 20 → SoundValues q → room < places → ListDeclined places room q (bare 24)
  memory_row low high sound short = record { holds = short_memory short; topmost = above }
    where
      above : (other : RowData) → ListRow places room q other → Higher other.number 24 → ⊥
      above _ (bad_length h) r = in_range low high h
      above _ (bad_values h) r = h sound
      above _ (short_memory h) r = omega arith
      above _ (bad_uses h) r = omega arith

  pub uses_row : 1 ≤ q.length → q.length ≤ 20 → SoundValues q → places ≤ room → (UsesList q.estimate → ⊥) → ListDeclined places room q (bare 30)
  uses_row low high sound long out = record { holds = bad_uses out; topmost = above }
    where
      above : (other : RowData) → ListRow places room q other → Higher other.number 30 → ⊥
      above _ (bad_length h) r = in_range low high h
      above _ (bad_values h) r = h sound
      above _ (short_memory h) r = omega arith
      above _ (bad_uses h) r = omega arith

  pub no_row : 1 ≤ q.length → q.length ≤ 20 → SoundValues q → places ≤ room → UsesList q.estimate → ListNoCause places room q
  no_row low high sound long uses _ (bad_length h) = in_range low high h
  no_row low high sound long uses _ (bad_values h) = h sound
  no_row low high sound long uses _ (short_memory h) = omega arith
  no_row low high sound long uses _ (bad_uses h) = h uses

  -- a row is the one at its place in the table
  row_there : (row : RowData) → ListRow places room q row → row ≡ bare (get_or table (rank row.number) 0)
  row_there _ (bad_length h) = refl
  row_there _ (bad_values h) = refl
  row_there _ (short_memory h) = refl
  row_there _ (bad_uses h) = refl

  -- only one row declines
  pub one_row : (row other : RowData) → ListDeclined places room q row → ListDeclined places room q other → row ≡ other
  one_row row other d e =
      ⊎_elim (λ same. row_there row d.holds ∙ (ap (λ k. bare (get_or table k 0)) same ∙ sym (row_there other e.holds)))
      (⊎_elim (λ h. absurd (e.topmost row d.holds h)) (λ h. absurd (d.topmost other e.holds h)))
      (cases_order (rank row.number) (rank other.number))
