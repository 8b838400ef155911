-- Which row declines a price. Assumes nothing.
use Rattle.std.proofs.Common.{◌≡◌, ℕ, ◌<◌, ◌≤◌, Bool, true, false, cond, ltb, leb, length, get_or, is_some, Some, None, Ok, Err, Decides, Option, refl, ap, arith}
use Rattle.std.proofs.lemmas.Bool.{and_parts, and_from, leb-true, leb-false, ltb-true, ltb-false, false≢true}
use Rattle.refusal.specs.Rows.{RowData}
use Rattle.refusal.specs.Table.{Higher}
use Rattle.refusal.specs.Lowest.{lowest}
use Rattle.refusal.proofs.Lowest.{Answers, lowest_tells}
use Rattle.usage.specs.declared.refusing.Refusal.TheVariants.{OutOfRange}
use Rattle.tree.specs.Trees.{TreeRule, share_branch}
use Rattle.tree.proofs.Sharing.{decides_share}
use Rattle.draft.specs.declared.refusing.Refusal.TheVariants.{NoSuchNode, Tariff, BranchPriced}
use Rattle.draft.specs.Drafts.{DraftData, with_price}
use Rattle.draft.specs.Rules.{unless, priced_on_branch, enter_price}
use Rattle.draft.specs.Rows.{PricedOnBranch, PriceRow, no_node, high_price, branch_priced, PriceAnswer}

-- what is there has a value
pub some_value : (o : Option ℕ) → is_some o ≡ true → (p : ℕ) × (o ≡ Some p)
some_value (Some p) e = (p, refl)
some_value None e = absurd (false≢true e)

module _ (d : DraftData) (w : TreeRule d.parents) (node price : ℕ) where
  decides_priced : (k : ℕ) → k < length d.parents → Decides (priced_on_branch d node k) (PricedOnBranch d node k)
  decides_priced k h = (
    λ t.
        let p = and_parts (is_some (get_or d.prices k None)) (share_branch d.parents k node) t in
        let v = some_value (get_or d.prices k None) p.0 in
        record { price = v.0; priced = v.1; branch = (decides_share d.parents w k node).0 p.1 },
    λ x. and_from (is_some (get_or d.prices k None)) (share_branch d.parents k node) (ap is_some x.priced) ((decides_share d.parents w k node).1 x.branch),
  )

  no_rows : node < length d.parents → price ≤ 1000000 → ((k : ℕ) → PricedOnBranch d node k → ⊥) → (row : RowData) → PriceRow d node price row → ⊥
  no_rows hn hp free _ (no_node h) = omega arith
  no_rows hn hp free _ (high_price h) = omega arith
  no_rows hn hp free _ (branch_priced {k} x) = free k x.holds

  above_node : (other : RowData) → PriceRow d node price other → Higher other.number 34 → ⊥
  above_node _ (no_node h) r = omega arith
  above_node _ (high_price h) r = omega arith
  above_node _ (branch_priced h) r = omega arith

  above_price : node < length d.parents → (other : RowData) → PriceRow d node price other → Higher other.number 32 → ⊥
  above_price hn _ (no_node h) r = omega arith
  above_price hn _ (high_price h) r = omega arith
  above_price hn _ (branch_priced h) r = omega arith

  above_branch : node < length d.parents → price ≤ 1000000 → (other : RowData) → PriceRow d node price other → Higher other.number 100 → ⊥
  above_branch hn hp _ (no_node h) r = omega arith
  above_branch hn hp _ (high_price h) r = omega arith
  above_branch hn hp _ (branch_priced h) r = omega arith

  by_tests : (b1 b2 : Bool) (o : Option ℕ) → leb (length d.parents) node ≡ b1 → ltb 1000000 price ≡ b2 → Answers (PricedOnBranch d node) o
      → PriceAnswer d node price (cond b1 (Err NoSuchNode) (cond b2 (Err (Tariff OutOfRange)) (unless BranchPriced o (Ok (with_price d node price)))))
  by_tests true b2 o e1 e2 x = record { holds = no_node (leb-true _ _ e1); topmost = above_node }
  by_tests false true o e1 e2 x = record { holds = high_price (ltb-true _ _ e2); topmost = above_price (leb-false _ _ e1) }
  by_tests false false (Some k) e1 e2 x = record { holds = branch_priced x; topmost = above_branch (leb-false _ _ e1) (ltb-false _ _ e2) }
  by_tests false false None e1 e2 x = (no_rows (leb-false _ _ e1) (ltb-false _ _ e2) x, refl)

  pub priced_tells : Answers (PricedOnBranch d node) (lowest (priced_on_branch d node) (length d.parents))
  priced_tells = lowest_tells (priced_on_branch d node) (PricedOnBranch d node) (length d.parents) decides_priced (λ k x. x.branch.one.under.above)

  pub price_answers : PriceAnswer d node price (enter_price d node price)
  price_answers = by_tests (leb (length d.parents) node) (ltb 1000000 price) (lowest (priced_on_branch d node) (length d.parents)) refl refl priced_tells
