use Rattle.std.proofs.Common.{◌≡◌, true, not, ltb, length, refl, arith}
use Rattle.std.proofs.lemmas.Bool.{lt-ltb}
use Rattle.std.proofs.lemmas.Bool.Decides.{Decides-at}
use Rattle.tree.specs.Trees.{among, is_end}
use Rattle.tree.specs.Held.{parents_of}
use Rattle.tree.proofs.Seats.{decides_end}
use Rattle.tree.proofs.Held.{length_parents}
use Rattle.tree.proofs.tree.ServiceTree.is_end_service.Goals as goal

pub returns-then-node-count : goal.returns-then-node-count
returns-then-node-count c =
    let t = c.args.self.now in
    let ps = parents_of t in
    let n = c.args.node in
    let z = length_parents t in
    let q : c.has_child.result ≡ among n ps = rw c.parents.ensures at c.has_child.ensures in
    let l : ltb n (length ps) ≡ true = lt-ltb n (length ps) (omega arith) in
    let e : not c.has_child.result ≡ is_end ps n = rw (q, l) refl in
    record { is = e; means = Decides-at (not c.has_child.result) (is_end ps n) e (decides_end ps n) }
