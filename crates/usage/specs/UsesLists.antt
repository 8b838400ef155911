-- Lists of uses: parts by seat. Assumes nothing.
use Rattle.std.specs.Prelude.{◌≡◌, ℕ, ◌≤◌, Bool, cond, List, [], ◌∷◌, length, nat_le, slice_index}
use Rattle.std.specs.List.{list_all}

-- a list of uses has 16 seats, and at most 100,000,000 parts at each
pub record UsesList (us : List ℕ) : Type 0 where
  pub seats : length us ≡ 16
  pub bounded : (k : ℕ) → slice_index us k ≤ 100000000

-- the bound as a test of each number
abbrev pub small : List ℕ → Bool
small us = list_all (λ u. nat_le u 100000000) us

-- the list with each flagged seat at 0
abbrev pub cleared : List Bool → List ℕ → List ℕ
cleared [] us = us
cleared (f ∷ fs) [] = []
cleared (f ∷ fs) (u ∷ us) = cond f 0 u ∷ cleared fs us
