-- Which offers of the book fit an enquiry. Assumes nothing.
use Rattle.std.specs.Prelude.{◌≡◌, ℕ, ◌<◌, ◌≤◌, true, ◌⊎◌, Some, slice_index}
use Rattle.tariff.specs.Totals.{Meaning, offer_total}
use Rattle.heads.specs.Rules.{HeadData, On}
use Rattle.catalogue.specs.Books.{Book, place_at, published}
use Rattle.listing.specs.Enquiries.{EnquiryData}

-- an offer: a place's head and tariff
pub record Placed (T : Type 0) : Type 0 where
  pub place : ℕ
  pub head : HeadData
  pub tariff : T

-- 0 asks for either
abbrev pub Agrees : ℕ → ℕ → Type 0
Agrees asked is = (asked ≡ 0) ⊎ (asked ≡ is)

-- the offer fits
pub record Fits {T : Type 0} (m : Meaning T) (b : Book T) (q : EnquiryData) (o : Placed T) : Type 0 where
  -- the book has it published
  pub is_published : place_at b o.place ≡ Some (published o.head o.tariff)
  -- the day is from its first to its last
  pub on_the_day : On o.head q.day
  pub of_network : Agrees q.network o.head.network
  pub of_contract : Agrees q.contract o.head.contract
  pub term_accepted : o.head.term ≤ q.term
  -- its tariff serves every seat with a use above 0
  pub serves_uses : (k : ℕ) → 0 < slice_index q.estimate k → m.served o.tariff k ≡ true

-- the total that the offer's tariff means for the estimate
abbrev pub total_of : {T : Type 0} → Meaning T → EnquiryData → Placed T → ℕ
total_of m q o = offer_total (m.drawn o.tariff) (m.charged o.tariff) q.estimate
