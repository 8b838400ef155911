use Rattle.std.proofs.Common.{◌≡◌, ℕ, ◌<◌, Bool, length, None}
use Rattle.refusal.specs.Lowest.{lowest}
use Rattle.tree.specs.Held.{parents_of}
use Rattle.tree.specs.contracts.tree.ServiceTree.lowest.F-Fn.{words}
use Rattle.tree.proofs.tree.ServiceTree.lowest.Given as goal

abbrev pub invariant-loop-node : goal.invariant-loop-node
invariant-loop-node g l =
    (p : ℕ → Bool) → ((n : ℕ) (b : Bool) → n < length (parents_of l.self) → (words g.row.F g.F.Fn).post l.test n b → b ≡ p n) → lowest p l.node ≡ None
