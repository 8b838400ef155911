-- The groups that a plan or option holds. Assumes nothing.
use Rattle.std.specs.Prelude.{List, map, take}
use Rattle.usage.specs.Groups.{GroupData, data_of}
use Rattle.usage.specs.declared.groups.Groups.{Groups}

-- the groups, by ascending order
abbrev pub held : Groups → List GroupData
held gs = map data_of (take gs.count gs.entries)
