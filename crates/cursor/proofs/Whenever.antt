-- What holds wherever a reading gives a value. Assumes nothing.
use Rattle.std.proofs.Common.{◌≡◌, ℕ, Bool, true, false, cond, refl, subst}
use Rattle.cursor.specs.Readings.{Got, value, fault, onward, as_got}

abbrev pub Whenever : {E V : Type 0} → Got E V → (V → ℕ → Type 0) → Type 0
Whenever (value v n) P = P v n
Whenever (fault e) P = Unit {0}

pub whenever_weaker : {E V : Type 0} (g : Got E V) (P Q : V → ℕ → Type 0) → Whenever g P → ((v : V) (n : ℕ) → P v n → Q v n) → Whenever g Q
whenever_weaker (value v n) P Q h f = f v n h
whenever_weaker (fault e) P Q h f = tt

-- one reading behind another
pub whenever_then : {E V W : Type 0} (g : Got E V) (k : V → ℕ → Got E W) (P : V → ℕ → Type 0) (Q : W → ℕ → Type 0) → Whenever g P → ((v : V) (n : ℕ) → P v n → Whenever (k v n) Q) → Whenever (onward g k) Q
whenever_then (value v n) k P Q h f = f v n h
whenever_then (fault e) k P Q h f = tt

pub whenever_as : {E F V : Type 0} (f : E → F) (g : Got E V) (P : V → ℕ → Type 0) → Whenever g P → Whenever (as_got f g) P
whenever_as f (value v n) P h = h
whenever_as f (fault e) P h = tt

pub whenever_cond : {E V : Type 0} (b : Bool) (v : V) (n : ℕ) (e : E) (P : V → ℕ → Type 0) → (b ≡ true → P v n) → Whenever (cond b (value v n) (fault e)) P
whenever_cond true v n e P h = h refl
whenever_cond false v n e P h = tt

pub whenever_at : {E V : Type 0} (g : Got E V) (P : V → ℕ → Type 0) (v : V) (n : ℕ) → g ≡ value v n → Whenever g P → P v n
whenever_at g P v n e h = let Q : Got _ _ → Type 0 = λ x. Whenever x P in subst Q e h

pub whenever_cond_not : {E V : Type 0} (b : Bool) (v : V) (n : ℕ) (e : E) (P : V → ℕ → Type 0) → (b ≡ false → P v n) → Whenever (cond b (fault e) (value v n)) P
whenever_cond_not true v n e P h = tt
whenever_cond_not false v n e P h = h refl

pub whenever_both : {E V : Type 0} (g : Got E V) (P Q : V → ℕ → Type 0) → Whenever g P → Whenever g Q → Whenever g (λ v n. P v n × Q v n)
whenever_both (value v n) P Q h k = (h, k)
whenever_both (fault e) P Q h k = tt
