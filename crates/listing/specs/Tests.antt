-- The tests by which the program finds what fits. Assumes nothing.
use Rattle.std.specs.Prelude.{ℕ, suc, Bool, true, ◌&&◌, ◌||◌, List, [], ◌∷◌, map, ◌==◌, nat_le}
use Rattle.tariff.specs.Totals.{Meaning, offer_total}
use Rattle.heads.specs.Rules.{HeadData}
use Rattle.catalogue.specs.Books.{Place, empty, in_work, published, Book}
use Rattle.ranking.specs.Offers.{Offer, no_offer}
use Rattle.listing.specs.Enquiries.{EnquiryData}

-- whether day, network, contract and term are in range
unfoldable pub sound_values : EnquiryData → Bool
sound_values q = nat_le q.day 65534 && (nat_le q.network 2 && (nat_le q.contract 2 && nat_le q.term 60))

-- whether a code is the one asked for
abbrev pub agrees : ℕ → ℕ → Bool
agrees asked is = asked == 0 || asked == is

-- whether a head is asked for
unfoldable pub asked_for : EnquiryData → HeadData → Bool
asked_for q h = nat_le h.first q.day && (nat_le q.day h.last && (agrees q.network h.network && (agrees q.contract h.contract && nat_le h.term q.term)))

-- whether each seat from i on with a use above 0 is served
abbrev pub serves_all : (ℕ → Bool) → ℕ → List ℕ → Bool
serves_all s i [] = true
serves_all s i (u ∷ us) = (u == 0 || s i) && serves_all s (suc i) us

-- a place as the list sees it: whether it fits, its floor, its total
abbrev pub offer_of : {T : Type 0} → Meaning T → EnquiryData → Place T → Offer
offer_of m q empty = no_offer
offer_of m q (in_work h t) = no_offer
offer_of m q (published h t) =
    record {
      fits = asked_for q h && serves_all (m.served t) 0 q.estimate;
      floor = m.floor t;
      total = offer_total (m.drawn t) (m.charged t) q.estimate;
    }

-- the places of a book as the list sees them
abbrev pub offers : {T : Type 0} → Meaning T → Book T → EnquiryData → List Offer
offers m b q = map (offer_of m q) b
