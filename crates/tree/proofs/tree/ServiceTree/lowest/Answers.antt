use Rattle.std.proofs.Common.{◌<◌, true, length, sym, arith, rules}
use Rattle.refusal.proofs.Lowest.{lowest_here}
use Rattle.tree.specs.Held.{parents_of}
use Rattle.tree.proofs.Held.{length_parents}
use Rattle.tree.proofs.tree.ServiceTree.lowest.Goals as goal

pub returns-then-test : goal.returns-then-test
returns-then-test g c = λ p h.
    let z = length_parents c.args.self.now in
    let lt : c.loop-node.node < length (parents_of c.args.self.now) = omega arith in
    sym (lowest_here p c.loop-node.node (c.loop-node.invariant p h) (sym (h c.loop-node.node true lt (search rules))) (length (parents_of c.args.self.now)) lt)
