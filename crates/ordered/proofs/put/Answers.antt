use Rattle.std.proofs.Common.{◌≡◌, ◌≤◌, take, rules}
use Rattle.ordered.specs.Inserting.{spot}
use Rattle.ordered.proofs.Moves.{put_is}
use Rattle.ordered.proofs.put.Goals as goal

pub returns : goal.returns
returns g c =
    -- `&memory[0..held]` is `take (held - 0)` as it is written, and `search` joins it with `take held`
    let at : c.spot_of-at.result ≡ spot g.T.Ranked.before c.args.item (take c.args.held c.args.memory.now) = search rules in
    let within : c.spot_of-at.result ≤ c.args.held = search rules in
    let moved = c.copy_within.ensures.by_index in (
      search rules,
      put_is g.T.Ranked.before c.args.item c.args.held c.args.memory.now c.copy_within.new.self c.spot_of-at.result at within (search rules) c.copy_within.ensures.len
          moved.0 moved.1 moved.2,
    )
