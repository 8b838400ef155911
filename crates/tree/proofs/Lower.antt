-- The test for parents that are numbered lower. Assumes nothing.
use Rattle.std.proofs.Common.{◌≡◌, ℕ, zero, suc, ◌+◌, ◌<◌, true, eqb, ltb, List, [], ◌∷◌, length, get_or, Decides, refl, inl, inr, add-zero, arith}
use Rattle.std.specs.List.{list_all, enumerate_from}
use Rattle.std.proofs.lemmas.Bool.{and_parts, and_from, or_left, or_right, eq-eqb, ltb-true, lt-ltb, cases_eq, ne_eqb}
use Rattle.tree.specs.Trees.{Lower, lower_at}

-- a node and its parent pass the test
passes_says : (n p : ℕ) → lower_at (n, p) ≡ true → (p ≡ 255 → ⊥) → p < n
passes_says n p t ne = ltb-true p n (rw (ne_eqb p 255 ne) at t)

says_passes : (n p : ℕ) → ((p ≡ 255 → ⊥) → p < n) → lower_at (n, p) ≡ true
says_passes n p f = elim (cases_eq p 255) [ inl e ↦ or_left _ (ltb p n) (eq-eqb p 255 e) | inr ne ↦ or_right (eqb p 255) _ (lt-ltb p n (f ne)) ]

lower_says : (ps : List ℕ) (i : ℕ) → list_all lower_at (enumerate_from i ps) ≡ true → (k : ℕ) → k < length ps → (get_or ps k 255 ≡ 255 → ⊥) → get_or ps k 255 < i + k
lower_says [] i t k h ne = absurd (omega arith)
lower_says (p ∷ ps) i t zero h ne =
    let c = and_parts (lower_at (i, p)) (list_all lower_at (enumerate_from (i + 1) ps)) t in
    rw (add-zero i) (passes_says i p c.0 ne)
lower_says (p ∷ ps) i t (suc k) h ne =
    let c = and_parts (lower_at (i, p)) (list_all lower_at (enumerate_from (i + 1) ps)) t in
    omega (arith, lower_says ps (i + 1) c.1 k (omega arith) ne)

says_lower : (ps : List ℕ) (i : ℕ) → ((k : ℕ) → k < length ps → (get_or ps k 255 ≡ 255 → ⊥) → get_or ps k 255 < i + k) → list_all lower_at (enumerate_from i ps) ≡ true
says_lower [] i f = refl
says_lower (p ∷ ps) i f =
    and_from (lower_at (i, p)) (list_all lower_at (enumerate_from (i + 1) ps)) (says_passes i p (λ ne. rw (add-zero i) at (f 0 (omega arith) ne)))
    (says_lower ps (i + 1) (λ k h ne. omega (arith, f (suc k) (omega arith) ne)))

pub decides_lower : (ps : List ℕ) → Decides (list_all lower_at (enumerate_from 0 ps)) (Lower ps)
decides_lower ps = (λ t k h ne. omega (arith, lower_says ps 0 t k h ne), λ l. says_lower ps 0 (λ k h ne. omega (arith, l k h ne)))
