-- Which rows of the table decline an entry of a draft, in words. Assumes nothing.
use Rattle.std.specs.Prelude.{◌≡◌, ℕ, ◌<◌, ◌≤◌, true, false, ◌⊎◌, List, [], length, Result, MatchResult, slice_index_or}
use Rattle.refusal.specs.Rows.{RowData, bare}
use Rattle.refusal.specs.Table.{DeclinedBy, NoRow}
use Rattle.refusal.specs.Lowest.{Lowest}
use Rattle.ordered.specs.Members.{Among}
use Rattle.usage.specs.Groups.{GroupData}
use Rattle.tree.specs.Trees.{ShareBranch}
use Rattle.draft.specs.declared.refusing.Refusal.{Refusal}
use Rattle.draft.specs.Apart.{PriceAt}
use Rattle.draft.specs.Drafts.{DraftData, with_price, with_group_at}
use Rattle.draft.specs.Refusals.{names, row_of}

-- an answer of a draft: what is asked for where no row holds, else the topmost row that holds
abbrev pub Answered : {M : Type 0} → (RowData → Type 0) → (M → Type 0) → Result M Refusal → Type 0
Answered Holds Does r = MatchResult r (λ m. NoRow Holds × Does m) (λ e. DeclinedBy Holds (row_of e))

-- k is priced, and is the node or on one of its branches
pub record PricedOnBranch (d : DraftData) (node k : ℕ) : Type 0 where
  pub price : ℕ
  pub priced : PriceAt d.prices k price
  pub branch : ShareBranch d.parents k node

-- a row holds for a price at a node
pub data PriceRow (d : DraftData) (node price : ℕ) : RowData → Type 0 where
  -- 34: no such node
  no_node : length d.parents ≤ node → PriceRow d node price (bare 34)
  -- 32: a price outside its range
  high_price : 1000000 < price → PriceRow d node price (bare 32)
  -- 100: a node on one of its branches, or itself, is priced; the lowest such node
  branch_priced : {k : ℕ} → Lowest (PricedOnBranch d node) k → PriceRow d node price (names 100 k)

abbrev pub PriceAnswer : DraftData → ℕ → ℕ → Result DraftData Refusal → Type 0
PriceAnswer d node price r = Answered (PriceRow d node price) (λ e. e ≡ with_price d node price) r

-- n is a node of the group, and shares a branch with another node of this or an earlier group
pub record Shares (d : DraftData) (ns : List ℕ) (n : ℕ) : Type 0 where
  pub listed : Among n ns
  pub other : ℕ
  pub another : other ≡ n → ⊥
  pub taken : Among other ns ⊎ (slice_index_or d.grouped other false ≡ true)
  pub branch : ShareBranch d.parents n other

-- a row holds for a group of this order and so many units at the nodes of a list
pub data GroupRow (d : DraftData) (order units : ℕ) (ns : List ℕ) : RowData → Type 0 where
  -- 34: no such node, or an empty group
  no_such : {n : ℕ} → Among n ns → length d.parents ≤ n → GroupRow d order units ns (bare 34)
  no_nodes : ns ≡ [] → GroupRow d order units ns (bare 34)
  -- 32: units outside their range
  many_units : 1600000 < units → GroupRow d order units ns (bare 32)
  -- 38: a ninth group
  ninth : 8 ≤ length d.groups → GroupRow d order units ns (bare 38)
  -- 115: the order is used already
  order_used : (g : GroupData) → Among g d.groups → g.order ≡ order → GroupRow d order units ns (bare 115)
  -- 110: one of its nodes shares a branch with another node of this or an earlier group; the lowest such node of the group
  branch_shared : {n : ℕ} → Lowest (Shares d ns) n → GroupRow d order units ns (names 110 n)

abbrev pub GroupAnswer : DraftData → ℕ → ℕ → List ℕ → Result DraftData Refusal → Type 0
GroupAnswer d order units ns r = Answered (GroupRow d order units ns) (λ e. e ≡ with_group_at d order units ns) r
