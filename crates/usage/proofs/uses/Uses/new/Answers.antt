use Rattle.std.proofs.Common.{sym, refl, ◌∙◌}
use Rattle.std.proofs.lemmas.Bool.{both_ways}
use Rattle.usage.specs.UsesLists.{small}
use Rattle.usage.proofs.UsesLaws.{all_small}
use Rattle.usage.proofs.uses.Uses.new.Goals as goal
use Rattle.usage.proofs.uses.Uses.new.Goals.{then-numbers-ne-SEATS-via-then-numbers-ne-SEATS, then-numbers-ne-SEATS-via-else-numbers-ne-SEATS+then-not-are_small}

pub returns-then-numbers-ne-SEATS : goal.returns-then-numbers-ne-SEATS
returns-then-numbers-ne-SEATS c = (
  refl,
  λ u. elim c.then-numbers-ne-SEATS.branch [
    | then-numbers-ne-SEATS-via-then-numbers-ne-SEATS w ↦ w.if-numbers-ne-SEATS.true u.seats
    | then-numbers-ne-SEATS-via-else-numbers-ne-SEATS+then-not-are_small w ↦
        both_ways (small c.args.numbers.now) (sym w.are_small.ensures ∙ w.if-not-are_small.true) (all_small c.args.numbers.now u.bounded)
  ],
)
