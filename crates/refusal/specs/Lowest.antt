-- The lowest number of which something holds: what a refusal names. Assumes nothing.
use Rattle.std.specs.Prelude.{ℕ, zero, suc, ◌<◌, Bool, cond, Some, None, Option}

-- k is the lowest number of which P holds
pub record Lowest (P : ℕ → Type 0) (k : ℕ) : Type 0 where
  pub holds : P k
  pub none_lower : (i : ℕ) → i < k → P i → ⊥

-- the first of two answers that is there
abbrev pub or_else : Option ℕ → Option ℕ → Option ℕ
or_else (Some k) o = Some k
or_else None o = o

-- the lowest number below n that passes a test, if one does
abbrev pub lowest : (ℕ → Bool) → ℕ → Option ℕ
lowest p zero = None
lowest p (suc n) = or_else (lowest p n) (cond (p n) (Some n) None)
