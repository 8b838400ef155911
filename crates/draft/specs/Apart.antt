-- What the prices and the groups of every draft keep to. Assumes nothing.
use Rattle.std.specs.Prelude.{◌≡◌, ℕ, ◌<◌, true, false, List, length, Some, None, Option, slice_index_or}
use Rattle.ordered.specs.Members.{Among}
use Rattle.usage.specs.Groups.{GroupData}
use Rattle.tree.specs.Trees.{ends_below, OnBranch}

-- the node k has the price p
abbrev pub PriceAt : List (Option ℕ) → ℕ → ℕ → Type 0
PriceAt prices k p = slice_index_or prices k None ≡ Some p

-- priced nodes on one branch, which may be one node
pub record TwoPriced (ps : List ℕ) (prices : List (Option ℕ)) : Type 0 where
  pub one : ℕ
  pub two : ℕ
  pub end : ℕ
  pub price : ℕ
  pub other : ℕ
  pub one_on : OnBranch ps one end
  pub two_on : OnBranch ps two end
  pub one_priced : PriceAt prices one price
  pub two_priced : PriceAt prices two other

-- a branch has at most one priced node
abbrev pub Apart : List ℕ → List (Option ℕ) → Type 0
Apart ps prices = (x : TwoPriced ps prices) → x.one ≡ x.two

-- a seat of a group
pub record GroupSeat (groups : List GroupData) : Type 0 where
  pub group : GroupData
  pub seat : ℕ
  pub held : Among group groups
  pub member : slice_index_or group.members seat false ≡ true

-- each seat of a group is one of the tree's
abbrev pub Seated : List ℕ → List GroupData → Type 0
Seated ps groups = (x : GroupSeat groups) → x.seat < ends_below (length ps) ps
