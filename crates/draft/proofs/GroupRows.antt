-- Which row declines a group. Assumes nothing.
use Rattle.std.proofs.Common.{◌≡◌, ℕ, ◌<◌, ◌≤◌, Bool, true, false, cond, not, ◌&&◌, eqb, ltb, leb, List, [], ◌∷◌, length, get_or, is_some, Some, None, Ok, Err, Option, sym, refl, ap, ◌∙◌, inl, inr, arith}
use Rattle.std.proofs.lemmas.Bool.{and_parts, and_from, or_cases, or_left, or_right, not-true, not_from_false, eqb-true, eqb-false, eq-eqb, ne_eqb, leb-true, leb-false, ltb-true, ltb-false, both_ways, false≢true}
use Rattle.refusal.specs.Rows.{RowData}
use Rattle.refusal.specs.Table.{Higher}
use Rattle.refusal.specs.Lowest.{lowest}
use Rattle.refusal.proofs.Lowest.{Answers, lowest_tells, some_tells, some_here}
use Rattle.ordered.specs.Members.{Among}
use Rattle.usage.specs.Groups.{GroupData, no_member, has_order}
use Rattle.usage.specs.declared.refusing.Refusal.TheVariants.{EmptyGroup, OutOfRange, NinthGroup, OrderUsed}
use Rattle.tree.specs.Trees.{TreeRule, among, share_branch}
use Rattle.tree.proofs.Sharing.{decides_share}
use Rattle.draft.specs.declared.refusing.Refusal.TheVariants.{NoSuchNode, Tariff, BranchShared}
use Rattle.draft.specs.Drafts.{DraftData, flagged, members_of, with_group_at}
use Rattle.draft.specs.Rules.{unless, strays, meets, shares, enter_group}
use Rattle.draft.specs.Rows.{Shares, GroupRow, no_such, no_nodes, many_units, ninth, order_used, branch_shared, GroupAnswer}
use Rattle.draft.proofs.Nodes.{decides_among, none_strays, one_strays, flagged_at}
use Rattle.draft.proofs.Members.{no_member_empty, member_not_empty}

order_tells : (o : ℕ) (gs : List GroupData) → has_order o gs ≡ true → (g : GroupData) × (Among g gs × (g.order ≡ o))
order_tells o [] t = absurd (false≢true t)
order_tells o (g ∷ gs) t =
    elim (or_cases (eqb g.order o) (has_order o gs) t) [
      | inl u ↦ (g, (inl refl, eqb-true _ _ u))
      | inr u ↦ let r = order_tells o gs u in (r.0, (inr r.1.0, r.1.1))
    ]

order_finds : (o : ℕ) (gs : List GroupData) (g : GroupData) → Among g gs → g.order ≡ o → has_order o gs ≡ true
order_finds o [] g a e = absurd a
order_finds o (h ∷ hs) g a e =
    elim a [
      | inl q ↦ or_left (eqb h.order o) (has_order o hs) (eq-eqb _ _ (ap (λ (x : GroupData). x.order) (sym q) ∙ e))
      | inr b ↦ or_right (eqb h.order o) (has_order o hs) (order_finds o hs g b e)
    ]

module _ (d : DraftData) (w : TreeRule d.parents) (long : length d.grouped ≡ 40) (order units : ℕ) (ns : List ℕ) where
  shares_tell : (n : ℕ) → shares d.parents (flagged ns d.grouped) ns n ≡ true → Shares d ns n
  shares_tell n t =
      let ps = d.parents in
      let fs = flagged ns d.grouped in
      let few = w.few in
      let p = and_parts (among n ns) (is_some (lowest (meets ps fs n) (length ps))) t in
      let r = some_tells (meets ps fs n) (length ps) p.1 in
      let m = r.0 in
      let hm = r.1 in
      let q = and_parts (not (eqb m n)) (get_or fs m false && share_branch ps n m) r.2 in
      let s = and_parts (get_or fs m false) (share_branch ps n m) q.1 in
      let g = flagged_at ns d.grouped m (omega arith) in
      record {
        listed = (decides_among n ns).0 p.0;
        other = m;
        another = eqb-false m n (not-true (eqb m n) q.0);
        taken = elim (or_cases (among m ns) (get_or d.grouped m false) (sym g ∙ s.0)) [ inl u ↦ inl ((decides_among m ns).0 u) | inr u ↦ inr u ];
        branch = (decides_share ps w n m).0 s.1;
      }

  shares_find : (n : ℕ) → Shares d ns n → shares d.parents (flagged ns d.grouped) ns n ≡ true
  shares_find n x =
      let ps = d.parents in
      let fs = flagged ns d.grouped in
      let few = w.few in
      let m = x.other in
      let hm = x.branch.other.under.above in
      let g = flagged_at ns d.grouped m (omega arith) in
      let f : get_or fs m false ≡ true =
      g ∙ elim x.taken [ inl a ↦ or_left (among m ns) (get_or d.grouped m false) ((decides_among m ns).1 a) | inr u ↦ or_right (among m ns) (get_or d.grouped m false) u ] in
      let b = and_from (get_or fs m false) (share_branch ps n m) f ((decides_share ps w n m).1 x.branch) in
      let t : meets ps fs n m ≡ true = and_from (not (eqb m n)) (get_or fs m false && share_branch ps n m) (not_from_false (eqb m n) (ne_eqb m n x.another)) b in
      and_from (among n ns) (is_some (lowest (meets ps fs n) (length ps))) ((decides_among n ns).1 x.listed) (some_here (meets ps fs n) (length ps) m hm t)

  shares_tells : Answers (Shares d ns) (lowest (shares d.parents (flagged ns d.grouped) ns) (length d.parents))
  shares_tells =
      lowest_tells (shares d.parents (flagged ns d.grouped) ns) (Shares d ns) (length d.parents)
      (λ n h. (shares_tell n, shares_find n)) (λ n x. x.branch.one.under.above)

  -- what no row above a given one holds for
  above_node : (other : RowData) → GroupRow d order units ns other → Higher other.number 34 → ⊥
  above_node _ (no_such a h) r = omega arith
  above_node _ (no_nodes h) r = omega arith
  above_node _ (many_units h) r = omega arith
  above_node _ (ninth h) r = omega arith
  above_node _ (order_used g a h) r = omega arith
  above_node _ (branch_shared h) r = omega arith

  module _ (low : strays (length d.parents) ns ≡ false) (some : no_member (members_of d.parents ns) ≡ false) where
    nodes_there : (n : ℕ) → Among n ns → length d.parents ≤ n → ⊥
    nodes_there n a h = let l = none_strays (length d.parents) ns low n a in omega arith

    above_units : (other : RowData) → GroupRow d order units ns other → Higher other.number 32 → ⊥
    above_units _ (no_such {n} a h) r = nodes_there n a h
    above_units _ (no_nodes h) r = member_not_empty d.parents w ns some h
    above_units _ (many_units h) r = omega arith
    above_units _ (ninth h) r = omega arith
    above_units _ (order_used g a h) r = omega arith
    above_units _ (branch_shared h) r = omega arith

    above_ninth : units ≤ 1600000 → (other : RowData) → GroupRow d order units ns other → Higher other.number 38 → ⊥
    above_ninth few _ (no_such {n} a h) r = nodes_there n a h
    above_ninth few _ (no_nodes h) r = member_not_empty d.parents w ns some h
    above_ninth few _ (many_units h) r = omega arith
    above_ninth few _ (ninth h) r = omega arith
    above_ninth few _ (order_used g a h) r = omega arith
    above_ninth few _ (branch_shared h) r = omega arith

    above_order : units ≤ 1600000 → length d.groups < 8 → (other : RowData) → GroupRow d order units ns other → Higher other.number 115 → ⊥
    above_order few room _ (no_such {n} a h) r = nodes_there n a h
    above_order few room _ (no_nodes h) r = member_not_empty d.parents w ns some h
    above_order few room _ (many_units h) r = omega arith
    above_order few room _ (ninth h) r = omega arith
    above_order few room _ (order_used g a h) r = omega arith
    above_order few room _ (branch_shared h) r = omega arith

    above_branch : units ≤ 1600000 → length d.groups < 8 → has_order order d.groups ≡ false → (other : RowData) → GroupRow d order units ns other → Higher other.number 110 → ⊥
    above_branch few room fresh _ (no_such {n} a h) r = nodes_there n a h
    above_branch few room fresh _ (no_nodes h) r = member_not_empty d.parents w ns some h
    above_branch few room fresh _ (many_units h) r = omega arith
    above_branch few room fresh _ (ninth h) r = omega arith
    above_branch few room fresh _ (order_used g a h) r = both_ways (has_order order d.groups) fresh (order_finds order d.groups g a h)
    above_branch few room fresh _ (branch_shared h) r = omega arith

    no_rows : units ≤ 1600000 → length d.groups < 8 → has_order order d.groups ≡ false → ((n : ℕ) → Shares d ns n → ⊥) → (row : RowData) → GroupRow d order units ns row → ⊥
    no_rows few room fresh free _ (no_such {n} a h) = nodes_there n a h
    no_rows few room fresh free _ (no_nodes h) = member_not_empty d.parents w ns some h
    no_rows few room fresh free _ (many_units h) = omega arith
    no_rows few room fresh free _ (ninth h) = omega arith
    no_rows few room fresh free _ (order_used g a h) = both_ways (has_order order d.groups) fresh (order_finds order d.groups g a h)
    no_rows few room fresh free _ (branch_shared {n} x) = free n x.holds

  by_tests : (b1 b2 b3 b4 b5 : Bool) (o : Option ℕ) → strays (length d.parents) ns ≡ b1 → no_member (members_of d.parents ns) ≡ b2
      → ltb 1600000 units ≡ b3 → leb 8 (length d.groups) ≡ b4 → has_order order d.groups ≡ b5 → Answers (Shares d ns) o
      → GroupAnswer d order units ns (cond b1 (Err NoSuchNode)
      (unless Tariff (cond b2 (Some EmptyGroup) (cond b3 (Some OutOfRange) (cond b4 (Some NinthGroup) (cond b5 (Some OrderUsed) None))))
      (unless BranchShared o (Ok (with_group_at d order units ns)))))
  by_tests true b2 b3 b4 b5 o e1 e2 e3 e4 e5 x =
      let r = one_strays (length d.parents) ns e1 in record { holds = no_such {n = r.0} r.1.0 r.1.1; topmost = above_node }
  by_tests false true b3 b4 b5 o e1 e2 e3 e4 e5 x =
      record { holds = no_nodes (no_member_empty d.parents w ns (none_strays (length d.parents) ns e1) e2); topmost = above_node }
  by_tests false false true b4 b5 o e1 e2 e3 e4 e5 x = record { holds = many_units (ltb-true _ _ e3); topmost = above_units e1 e2 }
  by_tests false false false true b5 o e1 e2 e3 e4 e5 x = record { holds = ninth (leb-true _ _ e4); topmost = above_ninth e1 e2 (ltb-false _ _ e3) }
  by_tests false false false false true o e1 e2 e3 e4 e5 x =
      let r = order_tells order d.groups e5 in
      record { holds = order_used r.0 r.1.0 r.1.1; topmost = above_order e1 e2 (ltb-false _ _ e3) (leb-false _ _ e4) }
  by_tests false false false false false (Some n) e1 e2 e3 e4 e5 x =
      record { holds = branch_shared x; topmost = above_branch e1 e2 (ltb-false _ _ e3) (leb-false _ _ e4) e5 }
  by_tests false false false false false None e1 e2 e3 e4 e5 x = (no_rows e1 e2 (ltb-false _ _ e3) (leb-false _ _ e4) e5 x, refl)

  pub group_answers : GroupAnswer d order units ns (enter_group d order units ns)
  group_answers =
      by_tests (strays (length d.parents) ns) (no_member (members_of d.parents ns)) (ltb 1600000 units) (leb 8 (length d.groups)) (has_order order d.groups)
      (lowest (shares d.parents (flagged ns d.grouped) ns) (length d.parents)) refl refl refl refl refl shares_tells
