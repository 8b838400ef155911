use Rattle.std.proofs.Common.{◌∙◌}
use Rattle.ordered.proofs.Moves.{spot_or_end}
use Rattle.ordered.proofs.spot_of.Goals as goal

pub returns-clause-at : goal.returns-clause-at
returns-clause-at g c = rw c.first_behind.ensures at c.unwrap_or.ensures ∙ spot_or_end g.T.Ranked.before c.args.item.now c.args.items.now
