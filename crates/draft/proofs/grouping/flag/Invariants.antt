use Rattle.std.proofs.Common.{◌≡◌, drop}
use Rattle.draft.specs.Drafts.{flagged}
use Rattle.draft.proofs.grouping.flag.Given as goal

abbrev pub invariant-loop-node : goal.invariant-loop-node
invariant-loop-node l = flagged (drop l.node-index l.nodes) l.all ≡ flagged l.nodes l.initial.all
