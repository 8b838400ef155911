-- The plain data of heads, raw and tested. Assumes nothing.
use Rattle.std.specs.Prelude.{vec_items}
use Rattle.heads.specs.Kinds.{network_code, contract_code}
use Rattle.heads.specs.Rules.{HeadData, head_of}
use Rattle.heads.specs.Names.{text_of}
use Rattle.heads.specs.declared.head.Head.{Head}
use Rattle.heads.specs.declared.raw.RawHead.{RawHead}

-- the values that a caller has
abbrev pub raw_data : RawHead → HeadData
raw_data r = head_of r.supplier (vec_items r.name) r.network r.contract r.term r.first r.last

-- the values that a head holds
abbrev pub head_data : Head → HeadData
head_data h = head_of h.supplier (text_of h.name) (network_code h.network) (contract_code h.contract) h.term h.first h.last
