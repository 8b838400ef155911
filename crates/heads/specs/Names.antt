-- The text that a name holds. Assumes nothing.
use Rattle.std.specs.Prelude.{ℕ, List, take}
use Rattle.heads.specs.declared.name.Name.{Name}

-- the name's bytes, without the noughts behind them
abbrev pub text_of : Name → List ℕ
text_of n = take n.len n.bytes
