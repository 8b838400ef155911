use Rattle.ranking.proofs.Meets.{steps_show, answer_stands}
use Rattle.ranking.proofs.Fixes.{answer_fixed, lines_costed, counts_bounded}
use Rattle.ranking.proofs.theorems.rules_of_a_list.Goals as goal

pub returns : goal.returns
returns c = record { shown = steps_show; stands = answer_stands; fixed = answer_fixed; costed = lines_costed; bounded = counts_bounded }
