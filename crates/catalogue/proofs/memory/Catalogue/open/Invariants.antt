use Rattle.std.proofs.Common.{◌≡◌, ◌++◌, map, take, drop}
use Rattle.catalogue.proofs.Holding.{clear}
use Rattle.catalogue.proofs.memory.Catalogue.open.Given as goal

abbrev pub invariant-loop-slot : goal.invariant-loop-slot
invariant-loop-slot g l = l.slot-items ≡ map clear (take l.slot-index l.initial.slot-items) ++ drop l.slot-index l.initial.slot-items
