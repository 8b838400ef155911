-- A branch has at most one priced node. Assumes nothing.
use Rattle.std.proofs.Common.{◌≡◌, ℕ, zero, suc, ◌<◌, true, false, ◌≢◌, List, [], length, get_or, set, replicate, Some, None, Option, sym, refl, ap, ◌∙◌, inl, inr, arith}
use Rattle.std.proofs.lemmas.List.{get_or-set_other, map-set}
use Rattle.std.proofs.lemmas.Bool.{cases_eq}
use Rattle.ordered.proofs.Members.{among_insert}
use Rattle.usage.specs.Groups.{GroupData, with_group, drawn_first}
use Rattle.tree.specs.Trees.{ends_below}
use Rattle.prices.specs.Tables.{price_of, price_data}
use Rattle.prices.specs.declared.amounts.UnitPrice.{UnitPrice}
use Rattle.draft.specs.Apart.{PriceAt, Apart, Seated}
use Rattle.draft.specs.Drafts.{DraftData}
use Rattle.draft.specs.Rows.{PricedOnBranch}

pub none_at : (n a : ℕ) → get_or (replicate {A = Option ℕ} n None) a None ≡ None
none_at zero a = refl
none_at (suc n) zero = refl
none_at (suc n) (suc a) = none_at n a

-- where nothing is priced
pub empty_apart : (ps : List ℕ) → Apart ps (price_data (replicate 40 None))
empty_apart ps x =
    let e : get_or (replicate {A = Option ℕ} 40 None) x.one None ≡ None = none_at 40 x.one in
    let p : get_or (replicate {A = Option ℕ} 40 None) x.one None ≡ Some x.price = x.one_priced in
    let z : ◌≡◌ {A = ℕ} 0 1 = cc in
    absurd (omega arith)

-- without groups
pub empty_seated : (ps : List ℕ) → Seated ps []
empty_seated ps x = absurd x.held

before : (prices : List (Option ℕ)) (node price k p : ℕ) → (k ≡ node → ⊥) → PriceAt (set prices node (Some price)) k p → PriceAt prices k p
before prices node price k p ne x = let n : k ≢ node = ne in rw (get_or-set_other prices node k (Some price) None n) at x

-- a price at a node with no priced node on its branches
pub set_apart : (d : DraftData) (node price : ℕ) → ((k : ℕ) → PricedOnBranch d node k → ⊥) → Apart d.parents d.prices → Apart d.parents (set d.prices node (Some price))
set_apart d node price free apart x =
    let was : (k p : ℕ) → (k ≡ node → ⊥) → PriceAt (set d.prices node (Some price)) k p → PriceAt d.prices k p = before d.prices node price in
    elim (cases_eq x.one node) [
      | inl a ↦ elim (cases_eq x.two node) [
        | inl b ↦ a ∙ sym b
        | inr b ↦ absurd (free x.two (record { price = x.other; priced = was x.two x.other b x.two_priced; branch = record { end = x.end; one = x.two_on; other = rw a at x.one_on } }))
      ]
      | inr a ↦ elim (cases_eq x.two node) [
        | inl b ↦ absurd (free x.one (record { price = x.price; priced = was x.one x.price a x.one_priced; branch = record { end = x.end; one = x.one_on; other = rw b at x.two_on } }))
        | inr b ↦ apart (record {
          one = x.one;
          two = x.two;
          end = x.end;
          price = x.price;
          other = x.other;
          one_on = x.one_on;
          two_on = x.two_on;
          one_priced = was x.one x.price a x.one_priced;
          two_priced = was x.two x.other b x.two_priced;
        })
      ]
    ]

-- the prices of the code with one more
pub data_set : (prices : List (Option UnitPrice)) (node : ℕ) (p : UnitPrice) → price_data (set prices node (Some p)) ≡ set (price_data prices) node (Some p.price)
data_set prices node p = map-set price_of prices node (Some p)

-- the seats of the groups with one more, whose own are the tree's
pub add_seated : (ps : List ℕ) (g : GroupData) (gs : List GroupData) → ((s : ℕ) → get_or g.members s false ≡ true → s < ends_below (length ps) ps) → Seated ps gs → Seated ps (with_group g gs)
add_seated ps g gs own old x =
    elim (among_insert drawn_first x.group g gs x.held) [
      | inl q ↦ own x.seat (ap (λ (h : GroupData). get_or h.members x.seat false) (sym q) ∙ x.member)
      | inr m ↦ old (record { group = x.group; seat = x.seat; held = m; member = x.member })
    ]
