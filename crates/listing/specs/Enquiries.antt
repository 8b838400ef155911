-- What a buyer asks for, by its values. Assumes nothing.
use Rattle.std.specs.Prelude.{ℕ, ◌≤◌, List, vec_items}
use Rattle.listing.specs.declared.enquiry.Enquiry.{Enquiry}

-- a day, a network and a contract (0 for either), the longest term accepted, the list length, and the estimate
pub record EnquiryData : Type 0 where
  pub day : ℕ
  pub network : ℕ
  pub contract : ℕ
  pub term : ℕ
  pub length : ℕ
  pub estimate : List ℕ

abbrev pub enquiry_data : Enquiry → EnquiryData
enquiry_data q = record { day = q.day; network = q.network; contract = q.contract; term = q.term; length = q.length; estimate = vec_items q.estimate }

-- the ranges of day, network, contract and term
pub record SoundValues (q : EnquiryData) : Type 0 where
  pub day_bound : q.day ≤ 65534
  pub network_bound : q.network ≤ 2
  pub contract_bound : q.contract ≤ 2
  pub term_bound : q.term ≤ 60
