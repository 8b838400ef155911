use Rattle.std.proofs.Common.{ℕ, ◌≤◌, refl, arith}
use Rattle.std.proofs.lemmas.Bool.Decides.{nat_tests}
use Rattle.std.proofs.lemmas.Result.{err_from_is_err_and}
use Rattle.heads.specs.declared.kinds.Network.TheVariants.{Fixed, Mobile}
use Rattle.heads.specs.Kinds.{contract_code, network_code}
use Rattle.sheet.specs.Layout.{lowest_network}
use Rattle.sheet.proofs.Ranges.{no_kind}
use Rattle.sheet.proofs.front.network.Goals as goal

lowest_some : (contract : ℕ) → 1 ≤ lowest_network contract
lowest_some contract = grind (arith, nat_tests)

pub returns-in_err-network : goal.returns-in_err-network
returns-in_err-network c =
    let p = err_from_is_err_and c.from_residual.result c.from_residual.ensures.1 in
    let l = lowest_some (contract_code c.args.contract) in
    let s = no_kind network_code (lowest_network (contract_code c.args.contract)) 2 c.args.cursor.now c.kind.new.cursor c.in_err-network.field-0.0 (λ code none h. let f = none Fixed in let m = none Mobile in omega arith) (rw c.in_err-network.was at c.kind.ensures) in
    rw (p.1, p.2) (s.0, refl)
