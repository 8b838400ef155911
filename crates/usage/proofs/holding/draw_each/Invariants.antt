use Rattle.std.proofs.Common.{◌≡◌, map, drop}
use Rattle.usage.specs.Groups.{data_of, drawn_all}
use Rattle.usage.proofs.holding.draw_each.Given as goal

abbrev pub invariant-loop-group : goal.invariant-loop-group
invariant-loop-group l = drawn_all (map data_of (drop l.group-index l.groups)) l.left.parts ≡ drawn_all (map data_of l.groups) l.initial.left.parts
