use Rattle.std.proofs.Common.{length}
use Rattle.std.specs.Vec.Iter.{into_iter_items}
use Rattle.tariff.specs.Totals.{meaning}
use Rattle.catalogue.specs.Held.{held}
use Rattle.journal.proofs.Loops.{SoFar}
use Rattle.journal.proofs.replaying.replay.Given as goal

abbrev pub invariant-loop-call : goal.invariant-loop-call
invariant-loop-call g l =
    SoFar (meaning g.T.Tariff.served g.T.Tariff.drawn g.T.Tariff.charged g.T.Tariff.floor)
    (length (held l.initial.catalogue)) l.yielded (into_iter_items l.call-iterator) (into_iter_items l.initial.call-iterator)
    l.initial.answers l.answers (held l.catalogue)
