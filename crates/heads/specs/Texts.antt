-- The texts that may be a name. Assumes nothing.
use Rattle.std.specs.Prelude.{ℕ, ◌<◌, ◌≤◌, Bool, ◌&&◌, List, length, nat_le, slice_index}
use Rattle.std.specs.List.{list_all}

-- a name has 1 to 24 bytes, each from 32 to 126
pub record NameText (text : List ℕ) : Type 0 where
  pub some : 1 ≤ length text
  pub short : length text ≤ 24
  pub low : (k : ℕ) → k < length text → 32 ≤ slice_index text k
  pub high : (k : ℕ) → k < length text → slice_index text k ≤ 126

-- whether a byte may stand in a name
abbrev pub printable_byte : ℕ → Bool
printable_byte b = nat_le 32 b && nat_le b 126

-- the rule for bytes as a test of each
abbrev pub printable : List ℕ → Bool
printable bytes = list_all printable_byte bytes
