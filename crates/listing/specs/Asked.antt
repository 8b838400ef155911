-- What an enquiry asks of a head, by its kinds. Assumes nothing.
use Rattle.std.specs.Prelude.{◌≡◌, ℕ, Bool, true, Option, Some, None}
use Rattle.heads.specs.Kinds.{network_code, contract_code}
use Rattle.listing.specs.declared.asked.Asked.{Asked}
use Rattle.listing.specs.Enquiries.{EnquiryData}

-- whether a kind is the one asked for; where none is, either will do
abbrev pub agrees_with : {K : Type 0} → (K → K → Bool) → Option K → K → Bool
agrees_with same None k = true
agrees_with same (Some a) k = same a k

-- the code of a kind that is asked for, or 0 for either
abbrev pub code_or_either : {K : Type 0} → (K → ℕ) → Option K → ℕ
code_or_either code None = 0
code_or_either code (Some k) = code k

-- these are an enquiry's values
pub record Asks (a : Asked) (q : EnquiryData) : Type 0 where
  pub day : q.day ≡ a.day
  pub network : q.network ≡ code_or_either network_code a.network
  pub contract : q.contract ≡ code_or_either contract_code a.contract
  pub term : q.term ≡ a.term
