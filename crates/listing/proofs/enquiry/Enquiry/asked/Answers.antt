use Rattle.std.proofs.Common.{◌≡◌, Err, refl, arith, rules}
use Rattle.std.proofs.lemmas.Bool.Decides.{nat_tests}
use Rattle.listing.specs.declared.refusing.Refusal.TheVariants.{BadEnquiry}
use Rattle.listing.specs.Tests.{sound_values}
use Rattle.listing.proofs.Codes.{network_read, contract_read, network_over, contract_over}
use Rattle.listing.proofs.enquiry.Enquiry.asked.Goals as goal

pub returns-then-self-gt-LATEST_DAY : goal.returns-then-self-gt-LATEST_DAY
unfolding sound_values
returns-then-self-gt-LATEST_DAY c = (refl, grind (arith, nat_tests))

pub returns-in_err-kind : goal.returns-in_err-kind
unfolding sound_values
returns-in_err-kind c =
    let is : c.from_residual.result ≡ Err BadEnquiry = search rules in
    let e = c.in_err-kind.ensures in
    let over = network_over c.args.self.now.network e.1 e.3.1 in
    rw is (refl, grind (arith, nat_tests))

pub returns-in_err-kind-2 : goal.returns-in_err-kind-2
unfolding sound_values
returns-in_err-kind-2 c =
    let is : c.from_residual-in_err-kind-2.result ≡ Err BadEnquiry = search rules in
    let e = c.in_err-kind-2.ensures in
    let over = contract_over c.args.self.now.contract e.1 e.3.1 in
    rw is (refl, grind (arith, nat_tests))

pub returns : goal.returns
unfolding sound_values
returns c =
    let n = network_read c.in_ok-kind.field-0 c.args.self.now.network c.in_ok-kind.ensures in
    let k = contract_read c.in_ok-kind-2.field-0 c.args.self.now.contract c.in_ok-kind-2.ensures in
    let network = n.1 in
    let contract = k.1 in
    (grind (arith, nat_tests), record { day = refl; network = n.0; contract = k.0; term = refl })
