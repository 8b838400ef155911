-- The groups of a tariff: orders, places, one group more, and all drawn. Assumes nothing.
use Rattle.std.proofs.Common.{◌≡◌, ℕ, ◌+◌, ◌<◌, ◌≤◌, Bool, true, false, cond, ◌||◌, eqb, ltb, List, [], ◌∷◌, ◌++◌, map, length, get_or, take, drop, Some, None, Option, sym, refl, ap, ◌∙◌, ⊎_elim, arith}
use Rattle.std.proofs.lemmas.List.{at_drop_more, at_drop_all, get_or-map, length-map, length-take-le, length-append, length-drop}
use Rattle.std.proofs.lemmas.Bool.{ltb-true, lt-ltb, eqb-false, or_parts, or_right, and_from, cond-true, cond-false, lt-leb, cases_lt}
use Rattle.std.specs.List.{list_any}
use Rattle.ordered.specs.Inserting.{insert}
use Rattle.ordered.specs.Ascending.{all, ascending}
use Rattle.ordered.proofs.Order.{ascending_at, ascending_insert, map_insert, length_insert, take_put}
use Rattle.usage.specs.declared.group.Group.{Group}
use Rattle.usage.specs.Drawing.{drawn}
use Rattle.usage.specs.Orders.{lower}
use Rattle.usage.specs.declared.refusing.Refusal.{Refusal}
use Rattle.usage.specs.declared.refusing.Refusal.TheVariants.{EmptyGroup, OutOfRange, OrderUsed}
use Rattle.usage.specs.Groups.{GroupData, data_of, no_member, shape_cause, group_cause, drawn_first, with_group, has_order, drawn_all, InOrder}
use Rattle.usage.proofs.Fairness.{drawn_fair}

-- `lower` is an order
pub lower_trans : (a b c : Group) → lower a b ≡ true → lower b c ≡ true → lower a c ≡ true
lower_trans a b c h g = lt-ltb _ _ (omega (arith, ltb-true a.order b.order h, ltb-true b.order c.order g))

-- a group whose order is not used stands before or behind each of the others
pub unused_apart : (g : Group) (gs : List Group) → has_order g.order (map data_of gs) ≡ false → all (λ h. lower g h || lower h g) gs ≡ true
unused_apart g [] e = refl
unused_apart g (h ∷ hs) e =
    let p = or_parts (eqb h.order g.order) (has_order g.order (map data_of hs)) e in
    let ne = eqb-false h.order g.order p.0 in
    and_from _ _
    (⊎_elim
    (λ (l : g.order < h.order). ap (λ (b : Bool). b || lower h g) (lt-ltb _ _ l))
    (λ (l : h.order ≤ g.order). let m : h.order < g.order = omega (arith, ne) in or_right (lower g h) (lower h g) (lt-ltb _ _ m))
    (cases_lt g.order h.order))
    (unused_apart g hs p.1)

-- groups that stand by ascending order do so by their values
pub held_in_order : (gs : List Group) → ascending lower gs ≡ true → InOrder (map data_of gs)
held_in_order [] e i j d l h = absurd (omega arith)
held_in_order (g ∷ gs) e i j d l h =
    let len : length (map data_of (g ∷ gs)) ≡ length (g ∷ gs) = length-map (g ∷ gs) data_of in
    let k : j < length (g ∷ gs) = omega arith in
    let first : i < length (g ∷ gs) = omega arith in
    let b = ltb-true _ _ (ascending_at lower (g ∷ gs) e i j g l k) in
    let at = get_or-map data_of (g ∷ gs) i g d first in
    let to = get_or-map data_of (g ∷ gs) j g d k in
    omega (arith, ap (λ (x : GroupData). x.order) at, ap (λ (x : GroupData). x.order) to)

-- one of these groups passes a test by its values
pub any_data : (p : GroupData → Bool) (gs : List Group) → list_any (λ (g : Group). p (data_of g)) gs ≡ list_any p (map data_of gs)
any_data p [] = refl
any_data p (g ∷ gs) = ap (λ (b : Bool). p (data_of g) || b) (any_data p gs)

-- a turn of the drawing of all groups
pub all_more : (gs : List Group) (i : ℕ) (g : Group) (us us' whole : List ℕ) → i < length gs → g ≡ get_or gs i g → us' ≡ drawn g.members.flags g.units us
    → drawn_all (map data_of (drop i gs)) us ≡ whole → drawn_all (map data_of (drop (i + 1) gs)) us' ≡ whole
all_more gs i g us us' whole h is now so =
    let more : drawn_all (map data_of (drop i gs)) us ≡ drawn_all (map data_of (drop (i + 1) gs)) (drawn (get_or gs i g).members.flags (get_or gs i g).units us) =
    at_drop_more (λ hs. drawn_all (map data_of hs) us) gs i g h in
    let here : drawn (get_or gs i g).members.flags (get_or gs i g).units us ≡ us' = ap (λ (x : Group). drawn x.members.flags x.units us) (sym is) ∙ sym now in
    ap (drawn_all (map data_of (drop (i + 1) gs))) (sym here) ∙ (sym more ∙ so)

pub all_end : (gs : List Group) (i : ℕ) (us whole : List ℕ) → length gs ≤ i → drawn_all (map data_of (drop i gs)) us ≡ whole → us ≡ whole
all_end gs i us whole h so = sym (at_drop_all (λ hs. drawn_all (map data_of hs) us) gs i h) ∙ so

-- drawing groups keeps the length and raises no use
pub all_keeps : (gs : List GroupData) (us : List ℕ) → length (drawn_all gs us) ≡ length us
all_keeps [] us = refl
all_keeps (g ∷ gs) us = all_keeps gs (drawn g.members g.units us) ∙ (drawn_fair g.members g.units us).keeps

pub all_lowers : (gs : List GroupData) (us : List ℕ) (k : ℕ) → get_or (drawn_all gs us) k 0 ≤ get_or us k 0
all_lowers [] us k = omega arith
all_lowers (g ∷ gs) us k = omega (arith, all_lowers gs (drawn g.members g.units us) k, (drawn_fair g.members g.units us).lowers k)

-- a cause that the group's own values do not give comes from the groups held
after_shape : (a b : Bool) (r : Option Refusal) → cond a (Some EmptyGroup) (cond b (Some OutOfRange) None) ≡ None
    → cond a (Some EmptyGroup) (cond b (Some OutOfRange) r) ≡ r
after_shape true b r e = absurd (let z : ◌≡◌ {A = ℕ} 0 1 = cc in omega arith)
after_shape false true r e = absurd (let z : ◌≡◌ {A = ℕ} 0 1 = cc in omega arith)
after_shape false false r e = refl

pub cause_order : (gs : List GroupData) (g : GroupData) → shape_cause g ≡ None → length gs < 8 → has_order g.order gs ≡ true → group_cause gs g ≡ Some OrderUsed
cause_order gs g e few used =
    after_shape (no_member g.members) (ltb 1600000 g.units) _ e ∙ (cond-false _ _ _ (lt-leb 8 (length gs) few) ∙ cond-true _ _ _ used)

pub cause_none : (gs : List GroupData) (g : GroupData) → shape_cause g ≡ None → length gs < 8 → has_order g.order gs ≡ false → group_cause gs g ≡ None
cause_none gs g e few unused =
    after_shape (no_member g.members) (ltb 1600000 g.units) _ e ∙ (cond-false _ _ _ (lt-leb 8 (length gs) few) ∙ cond-false _ _ _ unused)

-- fewer than 8 are held
pub held_length : (es : List Group) (n : ℕ) → n ≤ length es → n < 8 → length (map data_of (take n es)) < 8
held_length es n h few = omega (arith, length-map (take n es) data_of, length-take-le n es h)

-- the memory of the groups after one more was put
module _ (g : Group) (es fs : List Group) (n : ℕ) (room : n < length es) (wrote : fs ≡ insert lower g (take n es) ++ drop (n + 1) es) where
  pub put_length : length fs ≡ length es
  put_length =
      ap length wrote ∙ (length-append (insert lower g (take n es)) (drop (n + 1) es)
      ∙ omega (arith, length_insert lower g (take n es), length-take-le n es (omega arith), length-drop (n + 1) es))

  put_held : take (n + 1) fs ≡ insert lower g (take n es)
  put_held = ap (take (n + 1)) wrote ∙ take_put lower g es n room

  pub put_rising : ascending lower (take n es) ≡ true → has_order g.order (map data_of (take n es)) ≡ false → ascending lower (take (n + 1) fs) ≡ true
  put_rising so unused =
      ap (ascending lower) put_held ∙ ascending_insert lower lower_trans g (take n es) so (unused_apart g (take n es) unused)

  pub put_data : (d : GroupData) → data_of g ≡ d → map data_of (take (n + 1) fs) ≡ with_group d (map data_of (take n es))
  put_data d e =
      ap (map data_of) put_held
      ∙ (map_insert data_of lower drawn_first (λ a b. refl) g (take n es) ∙ ap (λ x. with_group x (map data_of (take n es))) e)
