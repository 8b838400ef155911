use Rattle.std.proofs.Common.{false, Decides, arith}
use Rattle.std.proofs.lemmas.Bool.{false≢true}
use Rattle.std.proofs.lemmas.Bool.Decides.{same_from_decides, Decides-like}
use Rattle.tree.specs.Trees.{Leads, Under, is_under}
use Rattle.tree.specs.Held.{parents_of}
use Rattle.tree.proofs.Climbs.{decides_under}
use Rattle.tree.proofs.Held.{length_parents, keeps_rule}
use Rattle.tree.proofs.tree.ServiceTree.is_under.Goals as goal

pub returns-then-node-count : goal.returns-then-node-count
returns-then-node-count c =
    let t = c.args.self.now in
    let ps = parents_of t in
    let z = length_parents t in
    let m : Decides false (Under ps c.args.node c.args.above) = (
      λ e. absurd (false≢true e),
      λ u. absurd (let a = u.node in let b = u.above in elim c.then-node-count.branch [ goal.then-node-count-via-then-node-count w ↦ let x = w.if-node-count.true in omega arith | goal.then-node-count-via-else-node-count+then-above-count w ↦ let x = w.if-above-count.true in omega arith ]),
    ) in
    record { is = same_from_decides false (is_under ps c.args.node c.args.above) m (decides_under ps (keeps_rule t) c.args.node c.args.above); means = m }

pub returns : goal.returns
returns c =
    let t = c.args.self.now in
    let ps = parents_of t in
    let n = c.args.node in
    let a = c.args.above in
    let z = length_parents t in
    let d : Decides c.climbs_to.result (Leads ps n a) = rw c.parents.ensures at c.climbs_to.ensures in
    let m : Decides c.climbs_to.result (Under ps n a) =
    Decides-like c.climbs_to.result (λ x. record { node = omega arith; above = omega arith; leads = x }) (λ u. u.leads) d in
    record { is = same_from_decides c.climbs_to.result (is_under ps n a) m (decides_under ps (keeps_rule t) n a); means = m }
