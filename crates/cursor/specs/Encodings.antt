-- The bytes that numbers and texts are written in. Assumes nothing.
use Rattle.std.specs.Prelude.{ℕ, ◌/◌, ◌%◌, ◌<◌, ◌≤◌, List, [], ◌∷◌, ◌++◌, length, slice_index}

-- a list of bytes
abbrev pub Bytes : List ℕ → Type 0
Bytes xs = (k : ℕ) → slice_index xs k < 256

-- a number in two bytes, and in four, the highest byte first
abbrev pub two : ℕ → List ℕ
two v = v / 256 ∷ (v % 256 ∷ [])

abbrev pub four : ℕ → List ℕ
four v = two (v / 65536) ++ two (v % 65536)

-- a text: from 1 to so many bytes, each from 32 to 126
pub record Text (most : ℕ) (bytes : List ℕ) : Type 0 where
  pub some : 1 ≤ length bytes
  pub short : length bytes ≤ most
  pub low : (k : ℕ) → k < length bytes → 32 ≤ slice_index bytes k
  pub high : (k : ℕ) → k < length bytes → slice_index bytes k ≤ 126

-- bytes behind their count
abbrev pub counted : List ℕ → List ℕ
counted bytes = length bytes ∷ bytes
