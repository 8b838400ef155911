-- Two nodes share a branch where one of them is under the other. Assumes nothing.
use Rattle.std.proofs.Common.{ℕ, zero, suc, ◌+◌, ◌<◌, ◌≤◌, ◌⊎◌, List, length, Decides, refl, inl, inr, arith}
use Rattle.std.proofs.lemmas.Bool.{cases_Bool}
use Rattle.std.proofs.lemmas.Bool.Decides.{Decides-or, Decides-like}
use Rattle.tree.specs.Trees.{Under, OnBranch, ShareBranch, TreeRule, among, share_branch, is_under}
use Rattle.tree.proofs.Climbs.{leads_on, one_way, decides_under}
use Rattle.tree.proofs.Seats.{parent_tells, end_from}

-- a branch leads through each node
on_branch_by : (f : ℕ) (ps : List ℕ) → TreeRule ps → (n : ℕ) → n < length ps → length ps ≤ n + f → (e : ℕ) × OnBranch ps n e
on_branch_by zero ps w n h l = absurd (omega arith)
on_branch_by (suc f) ps w n h l =
    elim (cases_Bool (among n ps)) [
      | inl t ↦
          let r = parent_tells n ps t in
          let i = r.0 in
          let hi = r.1 in
          let q = r.2 in
          let few = w.few in
          let lt = w.lower i hi (λ z. omega arith) in
          let d = on_branch_by f ps w i hi (omega arith) in
          let u = d.1.under in
          (d.0, record { end_service = d.1.end_service; under = record { node = u.node; above = h; leads = leads_on ps d.0 i n u.leads (1, q) } })
      | inr c ↦ (n, record { end_service = end_from ps n h c; under = record { node = h; above = h; leads = (0, refl) } })
    ]

pub on_branch : (ps : List ℕ) → TreeRule ps → (n : ℕ) → n < length ps → (e : ℕ) × OnBranch ps n e
on_branch ps w n h = on_branch_by (length ps) ps w n h (omega arith)

-- what is above a node is on its branches
pub above_on_branch : (ps : List ℕ) (n a e : ℕ) → Under ps n a → OnBranch ps n e → OnBranch ps a e
above_on_branch ps n a e u b =
    record { end_service = b.end_service; under = record { node = b.under.node; above = u.above; leads = leads_on ps e n a b.under.leads u.leads } }

to_share : (ps : List ℕ) → TreeRule ps → (a b : ℕ) → Under ps a b ⊎ Under ps b a → ShareBranch ps a b
to_share ps w a b x =
    elim x [
      | inl u ↦ let d = on_branch ps w a u.node in record { end = d.0; one = d.1; other = above_on_branch ps a b d.0 u d.1 }
      | inr u ↦ let d = on_branch ps w b u.node in record { end = d.0; one = above_on_branch ps b a d.0 u d.1; other = d.1 }
    ]

from_share : (ps : List ℕ) (a b : ℕ) → ShareBranch ps a b → Under ps a b ⊎ Under ps b a
from_share ps a b s =
    let u = s.one.under in
    let v = s.other.under in
    elim (one_way ps s.end a b u.leads v.leads) [
      | inl x ↦ inl (record { node = u.above; above = v.above; leads = x })
      | inr x ↦ inr (record { node = v.above; above = u.above; leads = x })
    ]

pub decides_share : (ps : List ℕ) → TreeRule ps → (a b : ℕ) → Decides (share_branch ps a b) (ShareBranch ps a b)
unfolding share_branch
decides_share ps w a b =
    Decides-like (share_branch ps a b) (to_share ps w a b) (from_share ps a b)
    (Decides-or (is_under ps a b) (is_under ps b a) (decides_under ps w a b) (decides_under ps w b a))
