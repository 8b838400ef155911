use Rattle.std.proofs.Common.{◌≡◌, ℕ, length, sym, ap, ◌∙◌, arith}
use Rattle.tree.specs.Trees.{ends_below}
use Rattle.tree.specs.Held.{parents_of}
use Rattle.tree.proofs.Seats.{seating}
use Rattle.tree.proofs.Held.{length_parents, keeps_rule}
use Rattle.tree.proofs.tree.ServiceTree.seats.Goals as goal

pub returns : goal.returns
returns c =
    let t = c.args.self.now in
    let ps = parents_of t in
    let z = length_parents t in
    let s = (keeps_rule t).seats in
    let q : c.end_count.result ≡ ends_below t.count ps = rw c.parents.ensures at c.end_count.ensures.is in
    let e : c.end_count.result ≡ ends_below (length ps) ps = q ∙ sym (ap (λ (n : ℕ). ends_below n ps) z) in
    record { is = e; few = omega arith; seating = rw e (seating ps) }
