-- A draft's prices and groups are those that were entered. Assumes nothing.
use Rattle.std.proofs.Common.{◌≡◌, ℕ, ◌<◌, false, ◌≢◌, List, [], ◌∷◌, length, get_or, set, replicate, Some, None, Ok, Decides, Option, Result, sym, refl, ◌∙◌, subst, inl, inr, arith}
use Rattle.std.proofs.lemmas.List.{get_or-set_same, get_or-set_other, length-set}
use Rattle.std.proofs.lemmas.Bool.{cases_eq, cases_lt}
use Rattle.refusal.specs.Lowest.{lowest, Lowest}
use Rattle.refusal.proofs.Lowest.{Answers}
use Rattle.ordered.specs.Members.{Among}
use Rattle.ordered.proofs.Members.{among_insert, insert_among}
use Rattle.usage.specs.Groups.{GroupData, group_data, drawn_first}
use Rattle.tree.specs.Trees.{TreeRule}
use Rattle.tree.proofs.Sharing.{on_branch}
use Rattle.draft.specs.declared.refusing.Refusal.{Refusal}
use Rattle.draft.specs.Apart.{PriceAt}
use Rattle.draft.specs.Drafts.{DraftData, empty_draft, with_price, members_of, with_group_at, Member}
use Rattle.draft.specs.Rules.{priced_on_branch, enter_price, enter_group}
use Rattle.draft.specs.Rows.{PricedOnBranch, no_node, branch_priced, PriceAnswer, GroupAnswer}
use Rattle.draft.specs.Laws.{Entry, price, group, Drafted, started, granted, MadeBy, KeepsEntries}
use Rattle.draft.proofs.Apart.{none_at}
use Rattle.draft.proofs.Members.{decides_member}
use Rattle.draft.proofs.Nodes.{length_flagged}
use Rattle.draft.proofs.PriceRows.{priced_tells, price_answers}
use Rattle.draft.proofs.GroupRows.{group_answers}

-- with the length of its tables
record Kept (ps : List ℕ) (es : List Entry) (d : DraftData) : Type 0 where
  keeps : KeepsEntries ps es d
  room : length d.prices ≡ 40
  flags : length d.grouped ≡ 40

none_lowest : (P : ℕ → Type 0) (o : Option ℕ) → Answers P o → ((k : ℕ) → Lowest P k → ⊥) → (k : ℕ) → P k → ⊥
none_lowest P (Some j) x never k p = never j x
none_lowest P None x never k p = x k p

no_price : (node p order units : ℕ) (ns : List ℕ) → group order units ns ≡ price node p → ⊥
no_price node p order units ns e = let z : ◌≡◌ {A = ℕ} 0 1 = cc in omega arith

no_group : (node p order units : ℕ) (ns : List ℕ) → price node p ≡ group order units ns → ⊥
no_group node p order units ns e = let z : ◌≡◌ {A = ℕ} 0 1 = cc in omega arith

kept_empty : (ps : List ℕ) → Kept ps [] (empty_draft ps)
kept_empty ps =
    record {
      keeps = record {
        tree = refl;
        priced = λ node p a. absurd a;
        prices = λ node p e. let n = none_at 40 node in let f : get_or (replicate {A = Option ℕ} 40 None) node None ≡ Some p = e in let z : ◌≡◌ {A = ℕ} 0 1 = cc in absurd (omega arith);
        grouped = λ order units ns a. absurd a;
        groups = λ g a. absurd a;
      };
      room = refl;
      flags = refl;
    }

module _ (ps : List ℕ) (w : TreeRule ps) (es : List Entry) (d : DraftData) (k : Kept ps es d) where
  rule : TreeRule d.parents
  rule = subst TreeRule (sym k.keeps.tree) w

  price_kept : (node p : ℕ) → node < length d.parents → ((n : ℕ) → PricedOnBranch d node n → ⊥) → Kept ps (price node p ∷ es) (with_price d node p)
  price_kept node p h free =
      let few = rule.few in
      let z = k.room in
      let l : node < length d.prices = omega arith in
      let old = k.keeps in
      let itself : (q : ℕ) → PriceAt d.prices node q → ⊥ =
      λ q e. let b = on_branch d.parents rule node h in free node (record { price = q; priced = e; branch = record { end = b.0; one = b.1; other = b.1 } }) in
      record {
        keeps = record {
          tree = old.tree;
          priced = λ n q a. elim a [
            | inl e ↦
                let i : n ≡ node = cc in
                let j : q ≡ p = cc in
                rw (i, j) (get_or-set_same d.prices node (Some p) None l)
            | inr m ↦ elim (cases_eq n node) [
              | inl i ↦ absurd (itself q (rw i at (old.priced n q m)))
              | inr ne ↦ let n2 : n ≢ node = ne in get_or-set_other d.prices node n (Some p) None n2 ∙ old.priced n q m
            ]
          ];
          prices = λ n q e. elim (cases_eq n node) [
            | inl i ↦
                let f : get_or (set d.prices node (Some p)) node None ≡ Some q = rw i at e in
                let g = get_or-set_same d.prices node (Some p) None l in
                let j : p ≡ q = cc in
                inl (rw (i, j) refl)
            | inr ne ↦ let n2 : n ≢ node = ne in inr (old.prices n q (sym (get_or-set_other d.prices node n (Some p) None n2) ∙ e))
          ];
          grouped = λ order units ns a. elim a [ inl e ↦ absurd (no_price node p order units ns e) | inr m ↦ old.grouped order units ns m ];
          groups = λ g a. let r = old.groups g a in (r.0, (inr r.1.0, r.1.1));
        };
        room = length-set d.prices node (Some p) ∙ z;
        flags = k.flags;
      }

  enter_price_kept : (node p : ℕ) (next : DraftData) → enter_price d node p ≡ Ok next → Kept ps (price node p ∷ es) next
  enter_price_kept node p next e =
      let P : Result DraftData Refusal → Type 0 = λ r. PriceAnswer d node p r in
      let a : P (Ok next) = subst P e (price_answers d rule node p) in
      let none = a.0 in
      let free = none_lowest (PricedOnBranch d node) (lowest (priced_on_branch d node) (length d.parents)) (priced_tells d rule node p) (λ n x. none _ (branch_priced x)) in
      elim (cases_lt node (length d.parents)) [
        | inl h ↦ subst (Kept ps (price node p ∷ es)) (sym a.1) (price_kept node p h free)
        | inr h ↦ absurd (none _ (no_node h))
      ]

  group_kept : (order units : ℕ) (ns : List ℕ) → Kept ps (group order units ns ∷ es) (with_group_at d order units ns)
  group_kept order units ns =
      let old = k.keeps in
      let g = group_data (members_of d.parents ns) units order in
      let M : List ℕ → Type 0 = λ qs. (s : ℕ) → Decides (get_or (members_of qs ns) s false) (Member ps ns s) in
      let made : MadeBy ps order units ns g =
      record { same_order = refl; same_units = refl; members = subst M (sym old.tree) (decides_member ps w ns) } in
      record {
        keeps = record {
          tree = old.tree;
          priced = λ n q a. elim a [ inl e ↦ absurd (no_group n q order units ns e) | inr m ↦ old.priced n q m ];
          prices = λ n q e. inr (old.prices n q e);
          grouped = λ o u ms a. elim a [
            | inl e ↦
                let i : o ≡ order = cc in
                let j : u ≡ units = cc in
                let l : ms ≡ ns = cc in
                (g, (insert_among drawn_first g g d.groups (inl refl), rw (i, j, l) made))
            | inr m ↦ let r = old.grouped o u ms m in (r.0, (insert_among drawn_first r.0 g d.groups (inr r.1.0), r.1.1))
          ];
          groups = λ h a. elim (among_insert drawn_first h g d.groups a) [
            | inl e ↦
                let Q : GroupData → Type 0 = λ x. (ms : List ℕ) × (Among (group x.order x.units ms) (group order units ns ∷ es) × MadeBy ps x.order x.units ms x) in
                subst Q (sym e) (ns, (inl refl, made))
            | inr m ↦ let r = old.groups h m in (r.0, (inr r.1.0, r.1.1))
          ];
        };
        room = k.room;
        flags = length_flagged ns d.grouped ∙ k.flags;
      }

  enter_group_kept : (order units : ℕ) (ns : List ℕ) (next : DraftData) → enter_group d order units ns ≡ Ok next → Kept ps (group order units ns ∷ es) next
  enter_group_kept order units ns next e =
      let P : Result DraftData Refusal → Type 0 = λ r. GroupAnswer d order units ns r in
      let a : P (Ok next) = subst P e (group_answers d rule k.flags order units ns) in
      subst (Kept ps (group order units ns ∷ es)) (sym a.1) (group_kept order units ns)

kept : (ps : List ℕ) → TreeRule ps → (es : List Entry) (d : DraftData) → Drafted ps es d → Kept ps es d
kept ps w _ _ started = kept_empty ps
kept ps w _ _ (granted {es} {d} (price node p) next x e) = enter_price_kept ps w es d (kept ps w es d x) node p next e
kept ps w _ _ (granted {es} {d} (group order units ns) next x e) = enter_group_kept ps w es d (kept ps w es d x) order units ns next e

pub drafts_keep_entries : (ps : List ℕ) → TreeRule ps → (es : List Entry) (d : DraftData) → Drafted ps es d → KeepsEntries ps es d
drafts_keep_entries ps w es d x = (kept ps w es d x).keeps
