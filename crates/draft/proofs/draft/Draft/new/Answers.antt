use Rattle.std.proofs.Common.{refl}
use Rattle.tree.specs.Held.{parents_of}
use Rattle.draft.proofs.Apart.{empty_apart, empty_seated}
use Rattle.draft.proofs.draft.Draft.new.Goals as goal

pub invariant_of-result : goal.invariant_of-result
invariant_of-result c =
    let ps = parents_of c.args.tree in
    record { room = refl; flags = refl; apart = empty_apart ps; seated = rw c.none.ensures (empty_seated ps) }
