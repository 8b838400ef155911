-- What an enquiry finds in the catalogue that it is asked of. Assumes nothing.
use Rattle.std.specs.Prelude.{◌≡◌, ℕ, true, false, List, MatchOption, Option}
use Rattle.tariff.specs.Totals.{Meaning}
use Rattle.catalogue.specs.Held.{held}
use Rattle.ranking.specs.Offers.{Offer, offer_at}
use Rattle.listing.specs.declared.request.Request.{Request}
use Rattle.listing.specs.Enquiries.{enquiry_data}
use Rattle.listing.specs.Tests.{offers}

-- the places of the catalogue as the list sees them
abbrev pub offers_for : {T : Type 0} → Meaning T → Request T → List Offer
offers_for m r = offers m (held r.catalogue.now) (enquiry_data r.enquiry.now)

-- the floor of the offer at a place, if it fits
abbrev pub FloorIfFitting : List Offer → ℕ → Option ℕ → Type 0
FloorIfFitting os p r = MatchOption r ((offer_at os p).fits ≡ false) (λ f. ((offer_at os p).fits ≡ true) × (f ≡ (offer_at os p).floor))
