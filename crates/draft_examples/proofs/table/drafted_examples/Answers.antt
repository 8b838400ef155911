use Rattle.std.proofs.Common.{refl}
use Rattle.tree.specs.Trees.{is_under, share_branch}
use Rattle.draft_examples.proofs.table.drafted_examples.Goals as goal

pub returns : goal.returns
unfolding is_under share_branch
returns c =
    record {
      price_below = refl;
      group_above = refl;
      node_twice = refl;
      plan_drafted = refl;
      option_drafted = refl;
      no_plan = refl;
    }
