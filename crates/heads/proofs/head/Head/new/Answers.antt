use Rattle.std.proofs.Common.{sym, ⊎_elim}
use Rattle.heads.specs.Kinds.{network_code, contract_code}
use Rattle.heads.specs.declared.kinds.Network.TheVariants.{Fixed, Mobile}
use Rattle.heads.specs.declared.kinds.Contract.TheVariants.{Subscription, Card}
use Rattle.heads.proofs.HeadLaws.{undecoded}
use Rattle.heads.proofs.head.Head.new.Goals as goal

pub returns-in_err-network : goal.returns-in_err-network
returns-in_err-network c =
    let none = undecoded network_code _ _ c.try_from.ensures c.in_err-network.ensures.value in
    rw c.from_residual-in_err-network.ensures
    (λ s. ⊎_elim (λ e. none Fixed (sym e)) (λ e. none Mobile (sym e)) s.network_known)

pub returns-in_err-contract : goal.returns-in_err-contract
returns-in_err-contract c =
    let none = undecoded contract_code _ _ c.try_from-2.ensures c.in_err-contract.ensures.value in
    rw c.from_residual-in_err-contract.ensures
    (λ s. ⊎_elim (λ e. none Subscription (sym e)) (λ e. none Card (sym e)) s.contract_known)

pub invariant_of-result-clause-mobile : goal.invariant_of-result-clause-mobile
invariant_of-result-clause-mobile c = λ e. (c.suits.ensures.0 c.if-not-suits.false e).0

pub invariant_of-result-clause-termless : goal.invariant_of-result-clause-termless
invariant_of-result-clause-termless c = λ e. (c.suits.ensures.0 c.if-not-suits.false e).1
