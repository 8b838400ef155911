use Rattle.std.proofs.Common.{◌<◌, length}
use Rattle.tree.specs.Trees.{Leads}
use Rattle.tree.proofs.branches.climbs_to.Given as goal

abbrev pub invariant-loop-at : goal.invariant-loop-at
invariant-loop-at l =
    (l.at < length l.parents)
    × (Leads l.parents l.at l.above → Leads l.parents l.node l.above)
    × (Leads l.parents l.node l.above → Leads l.parents l.at l.above)

abbrev pub decreases-loop-at : goal.decreases-loop-at
decreases-loop-at l = l.at
