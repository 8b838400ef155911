-- The codes of networks and of kinds of contract. Assumes nothing.
use Rattle.std.specs.Prelude.{ℕ}
use Rattle.heads.specs.declared.kinds.Network.{Network}
use Rattle.heads.specs.declared.kinds.Network.TheVariants.{Fixed, Mobile}
use Rattle.heads.specs.declared.kinds.Contract.{Contract}
use Rattle.heads.specs.declared.kinds.Contract.TheVariants.{Subscription, Card}

-- 1 fixed, 2 mobile
abbrev pub network_code : Network → ℕ
network_code Fixed = 1
network_code Mobile = 2

-- 1 subscription, 2 card
abbrev pub contract_code : Contract → ℕ
contract_code Subscription = 1
contract_code Card = 2
