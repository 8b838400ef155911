use Rattle.std.proofs.Common.{arith}
use Rattle.std.proofs.lemmas.Bool.Decides.{nat_tests}
use Rattle.listing.specs.Tests.{asked_for}
use Rattle.listing.proofs.Codes.{network_agrees, contract_agrees}
use Rattle.listing.proofs.asked.Asked.admits.Goals as goal

pub returns-then-agree-2 : goal.returns-then-agree-2
unfolding asked_for
returns-then-agree-2 c q is =
    let n = network_agrees c.args.self.now.network c.args.head.now.network in
    let k = contract_agrees c.args.self.now.contract c.args.head.now.contract in
    grind (arith, nat_tests)

pub returns-else-agree-2 : goal.returns-else-agree-2
unfolding asked_for
returns-else-agree-2 c q is =
    let n = network_agrees c.args.self.now.network c.args.head.now.network in
    let k = contract_agrees c.args.self.now.contract c.args.head.now.contract in
    grind (arith, nat_tests)
