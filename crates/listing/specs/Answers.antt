-- What a list call answers, and what it leaves in the line memory. Assumes nothing.
use Rattle.std.specs.Prelude.{◌≡◌, ℕ, ◌-◌, ◌≤◌, List, ◌++◌, length, replicate, Result, MatchResult}
use Rattle.tariff.specs.Totals.{Meaning}
use Rattle.catalogue.specs.Books.{Book}
use Rattle.stages.specs.declared.line.Line.{Line}
use Rattle.stages.specs.Lines.{blank}
use Rattle.listing.specs.declared.refusing.Refusal.{Refusal}
use Rattle.listing.specs.Enquiries.{EnquiryData}
use Rattle.listing.specs.Shown.{Shown}
use Rattle.listing.specs.Table.{ListDeclined, ListNoCause}
use Rattle.listing.specs.Refusals.{row_of}

-- the memory xs becomes the lines, then place 0, total 0 to its end
pub record Written (xs ls ys : List Line) : Type 0 where
  pub room : length ls ≤ length xs
  pub memory : ys ≡ ls ++ replicate (length xs - length ls) blank

-- so many lines are shown and so many offers costed
pub record ListShown {T : Type 0} (m : Meaning T) (b : Book T) (q : EnquiryData) (xs : List Line) (shown costed : ℕ) (ys : List Line) : Type 0 where
  pub lines : List Line
  pub shows : Shown m b q lines costed
  pub counts : shown ≡ length lines
  pub written : Written xs lines ys

-- a list call on the book b, with the line memory xs, answers r and leaves ys: it is answered exactly where it has no cause
abbrev pub ListAnswered : {T : Type 0} → Meaning T → Book T → EnquiryData → List Line → Result (ℕ × ℕ) Refusal → List Line → Type 0
ListAnswered m b q xs r ys =
    MatchResult r
    (λ p. ListNoCause (length b) (length xs) q × ListShown m b q xs p.0 p.1 ys)
    (λ e. ListDeclined (length b) (length xs) q (row_of e) × (ys ≡ xs))
