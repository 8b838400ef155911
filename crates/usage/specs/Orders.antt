-- The order of groups in a tariff. Assumes nothing.
use Rattle.std.specs.Prelude.{Bool, nat_lt}
use Rattle.usage.specs.declared.group.Group.{Group}

-- the first group is drawn before the second
abbrev pub lower : Group → Group → Bool
lower g h = nat_lt g.order h.order
