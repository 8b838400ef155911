-- Offers, as a list sees them, by place. Assumes nothing.
use Rattle.std.specs.Prelude.{◌≡◌, ℕ, suc, ◌≤◌, Bool, true, false, cond, List, [], ◌∷◌, slice_index_or}

-- whether it fits, its floor, and its total
pub record Offer : Type 0 where
  pub fits : Bool
  pub floor : ℕ
  pub total : ℕ

-- an offer that does not fit
abbrev pub no_offer : Offer
no_offer = record { fits = false; floor = 0; total = 0 }

-- the offer at a place; behind the last place nothing fits
abbrev pub offer_at : List Offer → ℕ → Offer
offer_at os p = slice_index_or os p no_offer

-- the offer at a place fits
abbrev pub Fitting : List Offer → ℕ → Type 0
Fitting os p = (offer_at os p).fits ≡ true

-- how many offers fit
abbrev pub fitting : List Offer → ℕ
fitting [] = 0
fitting (o ∷ os) = cond o.fits (suc (fitting os)) (fitting os)

-- no fitting offer's total is below its floor
abbrev pub FloorsHold : List Offer → Type 0
FloorsHold os = (p : ℕ) → Fitting os p → (offer_at os p).floor ≤ (offer_at os p).total
