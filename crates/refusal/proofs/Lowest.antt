-- The search for the lowest number that passes a test, and what it tells. Assumes nothing.
use Rattle.std.proofs.Common.{◌≡◌, ℕ, zero, suc, ◌<◌, Bool, true, false, cond, is_some, Some, None, Decides, Option, refl, inl, inr, arith, MatchOption}
use Rattle.std.proofs.lemmas.Bool.{cases_eq, both_ways, false≢true}
use Rattle.refusal.specs.Lowest.{Lowest, or_else, lowest}

-- the first that passes
pub lowest_here : (p : ℕ → Bool) (i : ℕ) → lowest p i ≡ None → p i ≡ true → (n : ℕ) → i < n → lowest p n ≡ Some i
lowest_here p i e t zero h = absurd (omega arith)
lowest_here p i e t (suc n) h =
    elim (cases_eq i n) [
      | inl q ↦ let f : lowest p n ≡ None = rw q at e in let u : p n ≡ true = rw q at t in rw (f, u, q) refl
      | inr ne ↦ rw (lowest_here p i e t n (omega arith)) refl
    ]

-- what the search answers, by its test: the lowest below n that passes, or none passes
abbrev Found : (ℕ → Bool) → ℕ → Option ℕ → Type 0
Found p n o = MatchOption o ((j : ℕ) → j < n → p j ≡ false) (λ k. (k < n) × (p k ≡ true) × ((j : ℕ) → j < k → p j ≡ false))

step : (p : ℕ → Bool) (n : ℕ) (o : Option ℕ) (b : Bool) → p n ≡ b → Found p n o → Found p (suc n) (or_else o (cond b (Some n) None))
step p n (Some k) b e h = let lt = h.0 in (omega arith, h.1, h.2)
step p n None true e h = (omega arith, e, h)
step p n None false e h = λ j lt. elim (cases_eq j n) [ inl q ↦ rw q e | inr ne ↦ h j (omega arith) ]

found : (p : ℕ → Bool) (n : ℕ) → Found p n (lowest p n)
found p zero = λ j h. absurd (omega arith)
found p (suc n) = step p n (lowest p n) (p n) refl (found p n)

-- whether there is one
some_found : (p : ℕ → Bool) (n : ℕ) (o : Option ℕ) → Found p n o → is_some o ≡ true → (k : ℕ) × (k < n) × (p k ≡ true)
some_found p n (Some k) h t = (k, h.0, h.1)
some_found p n None h t = absurd (false≢true t)

pub some_tells : (p : ℕ → Bool) (n : ℕ) → is_some (lowest p n) ≡ true → (k : ℕ) × (k < n) × (p k ≡ true)
some_tells p n t = some_found p n (lowest p n) (found p n) t

found_some : (p : ℕ → Bool) (n k : ℕ) (o : Option ℕ) → k < n → p k ≡ true → Found p n o → is_some o ≡ true
found_some p n k (Some j) h t f = refl
found_some p n k None h t f = absurd (both_ways (p k) (f k h) t)

pub some_here : (p : ℕ → Bool) (n k : ℕ) → k < n → p k ≡ true → is_some (lowest p n) ≡ true
some_here p n k h t = found_some p n k (lowest p n) h t (found p n)

-- where the test decides P, and P holds of numbers below n alone: the lowest of which P holds, or it holds of none
abbrev pub Answers : (ℕ → Type 0) → Option ℕ → Type 0
Answers P o = MatchOption o ((k : ℕ) → P k → ⊥) (Lowest P)

in_words : (p : ℕ → Bool) (P : ℕ → Type 0) (n : ℕ) → ((k : ℕ) → k < n → Decides (p k) (P k)) → ((k : ℕ) → P k → k < n) → (o : Option ℕ) → Found p n o → Answers P o
in_words p P n d low (Some k) h =
    let lt = h.0 in
    record { holds = (d k lt).0 h.1; none_lower = λ i l x. both_ways (p i) (h.2 i l) ((d i (omega arith)).1 x) }
in_words p P n d low None h = λ k x. both_ways (p k) (h k (low k x)) ((d k (low k x)).1 x)

pub lowest_tells : (p : ℕ → Bool) (P : ℕ → Type 0) (n : ℕ) → ((k : ℕ) → k < n → Decides (p k) (P k)) → ((k : ℕ) → P k → k < n) → Answers P (lowest p n)
lowest_tells p P n d low = in_words p P n d low (lowest p n) (found p n)
