use Rattle.usage.proofs.GroupLaws.{all_more, all_end}
use Rattle.usage.proofs.holding.draw_each.Goals as goal

pub loop-group-preserved : goal.loop-group-preserved
loop-group-preserved c =
    all_more c.args.groups.now c.loop-group.group-index c.group-item.result _ _ _ c.loop-group-test.true c.group-item.is c.draw-left.ensures.is c.loop-group.invariant

pub returns : goal.returns
returns c = all_end c.args.groups.now c.loop-group.group-index _ _ c.loop-group-test.false c.loop-group.invariant
