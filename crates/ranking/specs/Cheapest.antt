-- What a list shows. Assumes nothing.
use Rattle.std.specs.Prelude.{◌≡◌, ℕ, ◌<◌, true, ◌⊎◌, List}
use Rattle.ordered.specs.Ascending.{ascending}
use Rattle.ordered.specs.Members.{Among, NoRepeats}
use Rattle.stages.specs.declared.line.Line.{Line}
use Rattle.stages.specs.Lines.{earlier}
use Rattle.ranking.specs.Offers.{Offer, offer_at, Fitting}
use Rattle.ranking.specs.Totals.{totals, places, different}
use Rattle.ranking.specs.Costing.{Counted}

-- no fitting place is left off these lines
abbrev pub NoneLeftOff : List Offer → List Line → Type 0
NoneLeftOff os ls = (p : ℕ) → Fitting os p → Among p (places ls)

-- the lines shown
pub record Cheapest (wanted : ℕ) (os : List Offer) (ls : List Line) : Type 0 where
  -- a fitting place left off has a higher total than every line
  pub left_off_dearer : (p : ℕ) → Fitting os p → (Among p (places ls) → ⊥) → (l : Line) → Among l ls → l.total < (offer_at os p).total
  -- each line is a fitting place at its total
  pub lines_fit : (l : Line) → Among l ls → Fitting os l.place × (l.total ≡ (offer_at os l.place).total)
  -- no place is on two lines
  pub place_once : NoRepeats (places ls)
  -- as many different totals as wanted, or fewer and none left off
  pub totals_wanted : (different (totals ls) ≡ wanted) ⊎ ((different (totals ls) < wanted) × NoneLeftOff os ls)
  -- by ascending total, then place
  pub in_order : ascending earlier ls ≡ true

-- what a list answers: the lines shown, and how many offers were costed
pub record Ranking (wanted : ℕ) (os : List Offer) (ls : List Line) (n : ℕ) : Type 0 where
  pub cheapest : Cheapest wanted os ls
  pub counted : Counted wanted os n
