-- What holds of every book that calls lead to. Assumes nothing.
use Rattle.std.specs.Prelude.{◌≡◌, ℕ, length, Some, Option}
use Rattle.refusal.specs.Rows.{RowData}
use Rattle.catalogue.specs.Books.{Book, all_empty, Apart, SoundBook}
use Rattle.catalogue.specs.Calls.{Change, Judged, DayFits}

pub record BookLaws (T : Type 0) : Type 0 where
  -- the book at opening has its number of places, no namesakes that share a day, and no head against the rules
  pub opened_long : (n : ℕ) → length (all_empty {T = T} n) ≡ n
  pub opened_apart : (n : ℕ) → Apart (all_empty {T = T} n)
  pub opened_sound : (n : ℕ) → SoundBook (all_empty {T = T} n)
  -- a cause leaves the book as it was
  pub declined_stays : (b n : Book T) (c : Change T) (row : RowData) → Judged b c (Some row) n → n ≡ b
  -- the number of places never changes
  pub long_kept : (b n : Book T) (c : Change T) (a : Option RowData) → Judged b c a n → length n ≡ length b
  -- two published namesakes never share a day after any call
  pub apart_kept : (b n : Book T) (c : Change T) (a : Option RowData) → Judged b c a n → Apart b → Apart n
  -- heads keep the rules after any call
  pub sound_kept : (b n : Book T) (c : Change T) (a : Option RowData) → Judged b c a n → DayFits c → SoundBook b → SoundBook n
  -- what is answered and what is left are fixed by the book and the call
  pub one_answer : (b : Book T) (c : Change T) (n k : Book T) (a e : Option RowData) → Judged b c a n → Judged b c e k → (a ≡ e) × (n ≡ k)
