use Rattle.std.proofs.Common.{refl, sym, ◌∙◌, rules}
use Rattle.std.proofs.lemmas.Bool.{both_ways}
use Rattle.tree.specs.Trees.{Lower}
use Rattle.tree.proofs.Lower.{decides_lower}
use Rattle.tree.proofs.tree.ServiceTree.new.Goals as goal

pub returns-then-not-are_lower : goal.returns-then-not-are_lower
returns-then-not-are_lower c =
    let d = decides_lower c.args.parents.now in
    (refl, λ rule. both_ways _ (sym c.are_lower.ensures ∙ c.if-not-are_lower.true) (d.1 rule.lower))

pub invariant_of-result : goal.invariant_of-result
invariant_of-result c =
    let l : Lower c.args.parents.now = (decides_lower c.args.parents.now).0 (sym c.are_lower.ensures ∙ c.if-not-are_lower.false) in
    search rules
