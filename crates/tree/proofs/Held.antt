-- A tree keeps its rule. Assumes nothing.
use Rattle.std.proofs.Common.{◌≡◌, ◌≤◌, length, arith}
use Rattle.std.proofs.lemmas.List.{length-take-le}
use Rattle.tree.specs.Trees.{TreeRule}
use Rattle.tree.specs.Held.{parents_of}
use Rattle.tree.specs.declared.tree.ServiceTree.{ServiceTree}

pub length_parents : (t : ServiceTree) → length (parents_of t) ≡ t.count
length_parents t =
    let z : length t.parents ≡ 40 = t.room in
    let f : t.count ≤ length t.parents = omega arith in
    length-take-le t.count t.parents f

pub keeps_rule : (t : ServiceTree) → TreeRule (parents_of t)
keeps_rule t =
    let e = length_parents t in
    record { some = omega arith; few = omega arith; lower = t.lower; seats = rw e t.seats }
