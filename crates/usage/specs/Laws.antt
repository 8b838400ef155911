-- What every drawing of a group keeps to, in the words of the rule. Assumes nothing.
use Rattle.std.specs.Prelude.{◌≡◌, ℕ, ◌+◌, ◌-◌, ◌*◌, ◌<◌, ◌≤◌, Bool, true, false, List, [], ◌∷◌, length, slice_index, slice_index_or}
use Rattle.usage.specs.Drawing.{used, given_out}

-- the sum of a list
abbrev pub sum_of : List ℕ → ℕ
sum_of [] = 0
sum_of (x ∷ xs) = x + sum_of xs

-- a member's draw d and its exact share, q * u / s, differ by less than one part: both are multiplied by s here
abbrev pub NearShare : ℕ → ℕ → ℕ → ℕ → Type 0
NearShare q s u d = (s * d < q * u + s) × (q * u < s * d + s)

-- a group of the members ms and so many units turns the uses us into vs
pub record FairDraw (ms : List Bool) (units : ℕ) (us vs : List ℕ) : Type 0 where
  -- the list keeps its length
  pub keeps : length vs ≡ length us
  -- the group gives out exactly the smaller of its parts and what its members use
  pub gives_out : sum_of vs + given_out ms units us ≡ sum_of us
  -- no use rises
  pub lowers : (k : ℕ) → slice_index vs k ≤ slice_index us k
  -- seats outside the group stay
  pub others_stay : (k : ℕ) → slice_index_or ms k false ≡ false → slice_index vs k ≡ slice_index us k
  -- each member's draw is its exact share to less than one part
  pub near_share : (k : ℕ) → 0 < used ms us → k < length us → slice_index_or ms k false ≡ true → NearShare (given_out ms units us) (used ms us) (slice_index us k) (slice_index us k - slice_index vs k)
