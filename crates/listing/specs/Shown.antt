-- What a list shows, and how many offers it costs. Assumes nothing.
use Rattle.std.specs.Prelude.{◌≡◌, ℕ, ◌<◌, ◌≤◌, ◌⊎◌, List, map, length, take, Some}
use Rattle.std.specs.List.{slice_get}
use Rattle.tariff.specs.Totals.{Meaning}
use Rattle.heads.specs.Rules.{Namesakes}
use Rattle.catalogue.specs.Books.{Book}
use Rattle.ordered.specs.Members.{Among, NoRepeats}
use Rattle.stages.specs.declared.line.Line.{Line}
use Rattle.ranking.specs.Totals.{totals, places, different}
use Rattle.listing.specs.Enquiries.{EnquiryData}
use Rattle.listing.specs.Fitting.{Placed, Fits, total_of}

-- a line shows this offer, which fits: its place, at its total
pub record Shows {T : Type 0} (m : Meaning T) (b : Book T) (q : EnquiryData) (l : Line) (o : Placed T) : Type 0 where
  pub fits : Fits m b q o
  pub at_place : l.place ≡ o.place
  pub at_total : l.total ≡ total_of m q o

-- a line shows some fitting offer
pub record ShowsOffer {T : Type 0} (m : Meaning T) (b : Book T) (q : EnquiryData) (l : Line) : Type 0 where
  pub offer : Placed T
  pub shows : Shows m b q l offer

-- a smaller total, or an equal total and a smaller place
abbrev pub Earlier : Line → Line → Type 0
Earlier l k = (l.total < k.total) ⊎ ((l.total ≡ k.total) × (l.place < k.place))

-- no fitting offer is left off these lines
abbrev pub NoneLeftOff : {T : Type 0} → Meaning T → Book T → EnquiryData → List Line → Type 0
NoneLeftOff {T} m b q ls = (o : Placed T) → Fits m b q o → Among o.place (places ls)

-- taking ends before an offer of the floor f: the totals gathered so far include as many different ones as the list is
-- to show, and f exceeds them all
abbrev pub TakingEnds : EnquiryData → List ℕ → ℕ → Type 0
TakingEnds q ts f = (q.length ≤ different ts) × ((t : ℕ) → Among t ts → t < f)

-- a lower floor, or an equal floor and a smaller place
abbrev pub Sooner : {T : Type 0} → Meaning T → Placed T → Placed T → Type 0
Sooner m o p = (m.floor o.tariff < m.floor p.tariff) ⊎ ((m.floor o.tariff ≡ m.floor p.tariff) × (o.place < p.place))

-- these offers, by ascending floor, then place, are all that fit
pub record InTurn {T : Type 0} (m : Meaning T) (b : Book T) (q : EnquiryData) (os : List (Placed T)) : Type 0 where
  pub all_fit : (o : Placed T) → Among o os → Fits m b q o
  pub none_missing : (o : Placed T) → Fits m b q o → Among o os
  pub by_floor : (i j : ℕ) (o p : Placed T) → i < j → slice_get os i ≡ Some o → slice_get os j ≡ Some p → Sooner m o p

-- n offers are costed: of all that fit, in turn, those up to the first before which taking ends
pub record Costed {T : Type 0} (m : Meaning T) (b : Book T) (q : EnquiryData) (n : ℕ) : Type 0 where
  pub offers : List (Placed T)
  pub in_turn : InTurn m b q offers
  pub within : n ≤ length offers
  -- taking does not end before one that is costed
  pub goes_on : (k : ℕ) (o : Placed T) → k < n → slice_get offers k ≡ Some o → TakingEnds q (map (total_of m q) (take k offers)) (m.floor o.tariff) → ⊥
  -- taking ends before the next, if there is one
  pub ends : (o : Placed T) → slice_get offers n ≡ Some o → TakingEnds q (map (total_of m q) (take n offers)) (m.floor o.tariff)

-- what a list shows
pub record Shown {T : Type 0} (m : Meaning T) (b : Book T) (q : EnquiryData) (ls : List Line) (costed : ℕ) : Type 0 where
  -- every fitting offer left off has a higher total than every line
  pub left_off_dearer : (o : Placed T) → Fits m b q o → (Among o.place (places ls) → ⊥) → (l : Line) → Among l ls → l.total < total_of m q o
  -- each line is a fitting offer, at the total that its tariff means for the estimate
  pub lines_fit : (l : Line) → Among l ls → ShowsOffer m b q l
  -- its place is on no other line
  pub place_once : NoRepeats (places ls)
  -- the different totals are exactly as many as wanted, or fewer with no fitting offer left off
  pub totals_wanted : (different (totals ls) ≡ q.length) ⊎ ((different (totals ls) < q.length) × NoneLeftOff m b q ls)
  -- no two lines carry the same supplier and name
  pub names_once : (l k : Line) (o p : Placed T) → Among l ls → Among k ls → Shows m b q l o → Shows m b q k p → Namesakes o.head p.head → l.place ≡ k.place
  -- ascending by total, then place
  pub in_order : (i j : ℕ) (l k : Line) → i < j → slice_get ls i ≡ Some l → slice_get ls j ≡ Some k → Earlier l k
  -- the count of offers costed
  pub count : Costed m b q costed
