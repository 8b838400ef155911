-- Kinds that are asked for, and their codes. Assumes nothing.
use Rattle.std.proofs.Common.{◌≡◌, ◌≢◌, ℕ, ◌<◌, ◌≤◌, Bool, false, ◌||◌, eqb, Some, None, Option, MatchOption, refl, sym, ap, ◌∙◌, arith}
use denote.Enum.Bare.{sameb}
use Rattle.heads.specs.declared.kinds.Network.{Network}
use Rattle.heads.specs.declared.kinds.Network.TheVariants.{Fixed, Mobile}
use Rattle.heads.specs.declared.kinds.Contract.{Contract}
use Rattle.heads.specs.declared.kinds.Contract.TheVariants.{Subscription, Card}
use Rattle.heads.specs.contracts.kinds.Network.{the_type as network_type}
use Rattle.heads.specs.contracts.kinds.Contract.{the_type as contract_type}
use Rattle.heads.specs.Kinds.{network_code, contract_code}
use Rattle.listing.specs.Tests.{agrees}
use Rattle.listing.specs.Asked.{agrees_with, code_or_either}

module _ {K : Type 0} (code : K → ℕ) (same : K → K → Bool) (is : (x y : K) → same x y ≡ eqb (code x) (code y)) (some : (x : K) → eqb (code x) 0 ≡ false) where
  by_code : (o : Option K) (k : K) → agrees_with same o k ≡ agrees (code_or_either code o) (code k)
  by_code None k = refl
  by_code (Some x) k = is x k ∙ sym (ap (λ b. b || eqb (code x) (code k)) (some x))

same_network : (x y : Network) → sameb network_type x y ≡ eqb (network_code x) (network_code y)
same_network Fixed Fixed = refl
same_network Fixed Mobile = refl
same_network Mobile Fixed = refl
same_network Mobile Mobile = refl

some_network : (x : Network) → eqb (network_code x) 0 ≡ false
some_network Fixed = refl
some_network Mobile = refl

same_contract : (x y : Contract) → sameb contract_type x y ≡ eqb (contract_code x) (contract_code y)
same_contract Subscription Subscription = refl
same_contract Subscription Card = refl
same_contract Card Subscription = refl
same_contract Card Card = refl

some_contract : (x : Contract) → eqb (contract_code x) 0 ≡ false
some_contract Subscription = refl
some_contract Card = refl

pub network_agrees : (o : Option Network) (n : Network) → agrees_with (sameb network_type) o n ≡ agrees (code_or_either network_code o) (network_code n)
network_agrees = by_code network_code (sameb network_type) same_network some_network

pub contract_agrees : (o : Option Contract) (k : Contract) → agrees_with (sameb contract_type) o k ≡ agrees (code_or_either contract_code o) (contract_code k)
contract_agrees = by_code contract_code (sameb contract_type) same_contract some_contract

-- a code that is read is in range, and is that of the kind that is asked for
pub network_read : (o : Option Network) (n : ℕ) → MatchOption o (n ≡ 0) (λ k. (n ≢ 0) × (network_code k ≡ n)) → (n ≡ code_or_either network_code o) × (n ≤ 2)
network_read None n e = (e, omega (arith, e))
network_read (Some Fixed) n e = (sym e.1, omega (arith, e.1))
network_read (Some Mobile) n e = (sym e.1, omega (arith, e.1))

pub contract_read : (o : Option Contract) (n : ℕ) → MatchOption o (n ≡ 0) (λ k. (n ≢ 0) × (contract_code k ≡ n)) → (n ≡ code_or_either contract_code o) × (n ≤ 2)
contract_read None n e = (e, omega (arith, e))
contract_read (Some Subscription) n e = (sym e.1, omega (arith, e.1))
contract_read (Some Card) n e = (sym e.1, omega (arith, e.1))

-- a code of no kind is out of range
pub network_over : (n : ℕ) → n ≢ 0 → ((k : Network) → network_code k ≢ n) → 2 < n
network_over n z f = omega (arith, z, f Fixed, f Mobile)

pub contract_over : (n : ℕ) → n ≢ 0 → ((k : Contract) → contract_code k ≢ n) → 2 < n
contract_over n z f = omega (arith, z, f Subscription, f Card)
