-- Arrays made by calls of a closure that changes nothing. Assumes nothing.
use Rattle.std.proofs.Common.{◌≡◌, ℕ, zero, suc, ◌+◌, ◌<◌, List, length, get_or, map, sym, refl, ap, ◌∙◌, subst, arith}
use Rattle.std.specs.Array.{IsFromFnResult, IsFromFnResultFrom}
use Rattle.std.specs.Fn.{Called}
use Rattle.std.proofs.lemmas.List.{same_lists, length-map, get_or-map}
use denote.Param.Members.{Mut}

module _ {F B : Type 0} (g : Mut F (ℕ × Unit {0}) B) (f : F) (h : ℕ → B) (step : (j : ℕ) (y : B) (q : F) → Called g f (j, tt) y q → (q ≡ f) × (y ≡ h j)) (ys : List B) where
  -- the k-th of the elements from i on
  from_each : (p : F) → p ≡ f → (n i k j : ℕ) → IsFromFnResultFrom g p ys i n → j ≡ i + k → k < n → (d : B) → get_or ys j d ≡ h j
  from_each p e zero i k j w is lt d = absurd (omega arith)
  from_each p e (suc n) i zero j (q, y, at, call, rest) is lt d =
      let o : i ≡ j = omega arith in
      let c = step i y q (subst (λ r. Called g r (i, tt) y q) e call) in
      subst (λ m. get_or ys m d ≡ h m) o (at.1 d ∙ c.1)
  from_each p e (suc n) i (suc k) j (q, y, at, call, rest) is lt d =
      let c = step i y q (subst (λ r. Called g r (i, tt) y q) e call) in
      from_each q c.0 n (i + 1) k j rest (omega arith) (omega arith) d

  -- each element of an array made by the closure at each index
  pub from_fn_at : (n : ℕ) → IsFromFnResult g f ys n → (k : ℕ) (d : B) → k < n → get_or ys k d ≡ h k
  from_fn_at n w k d lt = from_each f refl n 0 k k w.each (omega arith) lt d

module _ {F A B : Type 0} (g : Mut F (ℕ × Unit {0}) B) (f : F) (h : A → B) (xs : List A) (d : A) (step : (j : ℕ) (y : B) (q : F) → Called g f (j, tt) y q → (q ≡ f) × (y ≡ h (get_or xs j d))) (ys : List B) where
  -- an array made by the closure of each element of a list; d is any value
  pub from_fn_is : (n : ℕ) → IsFromFnResult g f ys n → length xs ≡ n → ys ≡ map h xs
  from_fn_is n w len =
      same_lists ys (map h xs) (w.long ∙ sym len ∙ sym (length-map xs h))
      (λ k e lt. from_fn_at g f (λ j. h (get_or xs j d)) step ys n w k e (omega (arith, w.long)) ∙ sym (get_or-map h xs k d e (omega (arith, w.long))))
