-- The way up from a node. Assumes nothing.
use Rattle.std.proofs.Common.{◌≡◌, ℕ, zero, suc, ◌+◌, ◌-◌, ◌<◌, ◌≤◌, true, ◌&&◌, eqb, ltb, ◌⊎◌, List, length, Decides, sym, refl, ap, ◌∙◌, inl, inr, arith}
use Rattle.std.proofs.lemmas.List.{get_or_past}
use Rattle.std.proofs.lemmas.Bool.{cases_eq, cases_lt, eqb-true, eq-eqb, or_cases, or_left, or_right, and_parts, and_from, ltb-true, lt-ltb}
use Rattle.tree.specs.Trees.{parent, climb, climbs, Leads, Under, Lower, TreeRule, is_under}

-- nothing stands above the top
climb_top : (ps : List ℕ) → length ps ≤ 255 → (k : ℕ) → climb k ps 255 ≡ 255
climb_top ps h zero = refl
climb_top ps h (suc k) = rw (get_or_past ps 255 255 h) (climb_top ps h k)

-- each step up leads at least one lower, or past the top
climb_lower : (ps : List ℕ) → length ps ≤ 40 → Lower ps → (k n : ℕ) → n < length ps → (climb k ps n ≡ 255) ⊎ (climb k ps n + k ≤ n)
climb_lower ps few lower zero n h = inr (omega arith)
climb_lower ps few lower (suc k) n h =
    elim (cases_eq (parent ps n) 255) [
      | inl e ↦ inl (rw e (climb_top ps (omega arith) k))
      | inr ne ↦
          let lt = lower n h ne in
          elim (climb_lower ps few lower k (parent ps n) (omega arith)) [ inl e ↦ inl e | inr le ↦ inr (omega arith) ]
    ]

-- what leads from a node to a lower one leads there from its parent
pub from_parent : (ps : List ℕ) (n a : ℕ) → a < n → Leads ps n a → Leads ps (parent ps n) a
from_parent ps n a h (zero, e) = absurd (omega arith)
from_parent ps n a h (suc k, e) = (k, e)

pub to_parent : (ps : List ℕ) (n a : ℕ) → Leads ps (parent ps n) a → Leads ps n a
to_parent ps n a x = (suc x.0, x.1)

-- no climb leads to a higher number
pub not_higher : (ps : List ℕ) → length ps ≤ 40 → Lower ps → (n a : ℕ) → a < length ps → n < length ps → n < a → Leads ps n a → ⊥
not_higher ps few lower n a ha hn lt x =
    let e = x.1 in
    elim (climb_lower ps few lower x.0 n hn) [ inl t ↦ omega arith | inr le ↦ omega arith ]

-- no climb goes on from the top
pub not_past_top : (ps : List ℕ) → length ps ≤ 40 → (a : ℕ) → a < length ps → Leads ps 255 a → ⊥
not_past_top ps few a ha x = let e = x.1 in let t = climb_top ps (omega arith) x.0 in omega arith

climb_add : (i m : ℕ) (ps : List ℕ) (n : ℕ) → climb (i + m) ps n ≡ climb m ps (climb i ps n)
climb_add zero m ps n = let e : 0 + m ≡ m = omega arith in rw e refl
climb_add (suc i) m ps n = let e : suc i + m ≡ suc (i + m) = omega arith in rw e (climb_add i m ps (parent ps n))

pub leads_on : (ps : List ℕ) (n a b : ℕ) → Leads ps n a → Leads ps a b → Leads ps n b
leads_on ps n a b x y = (x.0 + y.0, climb_add x.0 y.0 ps n ∙ (ap (climb y.0 ps) x.1 ∙ y.1))

later : (ps : List ℕ) (e a b i j : ℕ) → climb i ps e ≡ a → climb j ps e ≡ b → i ≤ j → Leads ps a b
later ps e a b i j p q h =
    let s : i + (j - i) ≡ j = omega arith in
    (j - i, ap (climb (j - i) ps) (sym p) ∙ (sym (climb_add i (j - i) ps e) ∙ (ap (λ (k : ℕ). climb k ps e) s ∙ q)))

-- of two numbers that climbs from one node lead to, one leads to the other
pub one_way : (ps : List ℕ) (e a b : ℕ) → Leads ps e a → Leads ps e b → Leads ps a b ⊎ Leads ps b a
one_way ps e a b x y =
    elim (cases_lt y.0 x.0) [
      | inl lt ↦ inr (later ps e b a y.0 x.0 y.1 x.1 (omega arith))
      | inr le ↦ inl (later ps e a b x.0 y.0 x.1 y.1 le)
    ]

-- the test by steps, and what it tells
climbs_tell : (f : ℕ) (ps : List ℕ) (a n : ℕ) → climbs f ps a n ≡ true → Leads ps n a
climbs_tell zero ps a n e = (0, eqb-true n a e)
climbs_tell (suc f) ps a n e =
    elim (or_cases (eqb n a) (climbs f ps a (parent ps n)) e) [
      | inl t ↦ (0, eqb-true n a t)
      | inr t ↦ to_parent ps n a (climbs_tell f ps a (parent ps n) t)
    ]

climbs_find : (f : ℕ) (ps : List ℕ) (a n k : ℕ) → k ≤ f → climb k ps n ≡ a → climbs f ps a n ≡ true
climbs_find zero ps a n zero h e = eq-eqb n a e
climbs_find zero ps a n (suc k) h e = absurd (omega arith)
climbs_find (suc f) ps a n zero h e = or_left (eqb n a) (climbs f ps a (parent ps n)) (eq-eqb n a e)
climbs_find (suc f) ps a n (suc k) h e = or_right (eqb n a) (climbs f ps a (parent ps n)) (climbs_find f ps a (parent ps n) k (omega arith) e)

pub decides_under : (ps : List ℕ) → TreeRule ps → (n a : ℕ) → Decides (is_under ps n a) (Under ps n a)
unfolding is_under
decides_under ps w n a = (
  λ t.
      let p = and_parts (ltb n (length ps)) (ltb a (length ps) && climbs 40 ps a n) t in
      let q = and_parts (ltb a (length ps)) (climbs 40 ps a n) p.1 in
      record { node = ltb-true _ _ p.0; above = ltb-true _ _ q.0; leads = climbs_tell 40 ps a n q.1 },
  λ u.
      let hn = u.node in
      let ha = u.above in
      let e = u.leads.1 in
      let few = w.few in
      let c : climbs 40 ps a n ≡ true =
      elim (climb_lower ps few w.lower u.leads.0 n hn) [
        | inl t ↦ absurd (omega arith)
        | inr le ↦ climbs_find 40 ps a n u.leads.0 (omega arith) e
      ] in
      and_from (ltb n (length ps)) (ltb a (length ps) && climbs 40 ps a n) (lt-ltb _ _ hn) (and_from (ltb a (length ps)) (climbs 40 ps a n) (lt-ltb _ _ ha) c),
)
