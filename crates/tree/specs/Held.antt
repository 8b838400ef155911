-- The list of parents that a service tree holds. Assumes nothing.
use Rattle.std.specs.Prelude.{ℕ, List, take}
use Rattle.tree.specs.declared.tree.ServiceTree.{ServiceTree}

abbrev pub parents_of : ServiceTree → List ℕ
parents_of t = take t.count t.parents
