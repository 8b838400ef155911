-- A cut falls where the next line would begin one different neighbouring total too many. Assumes nothing.
use Rattle.std.proofs.Common.{◌≡◌, ℕ, zero, suc, ◌<◌, ◌≤◌, true, false, eqb, ◌⊎◌, List, [], ◌∷◌, length, take, sym, refl, ap, ◌∙◌, inl, inr, ⊎_elim, add-one, arith}
use Rattle.std.proofs.lemmas.Bool.{cond_both, cond-true, cond-false}
use Rattle.stages.specs.declared.line.Line.{Line}
use Rattle.stages.specs.Cutting.{changes, neighbouring, follow, keeps, Falls}

-- behind a line of the total t, the first k of ys may follow where m totals more may begin
pub record Follows (m t : ℕ) (ys : List Line) (k : ℕ) : Type 0 where
  pub leading : k ≤ length ys
  pub within : changes t (take k ys) ≤ m
  pub full : (k ≡ length ys) ⊎ ((k < length ys) × (changes t (take (suc k) ys) ≡ suc m))

-- one line more of the same total
same_more : (m t : ℕ) (y : Line) (ys : List Line) (k : ℕ) → eqb y.total t ≡ true → Follows m t ys k → Follows m t (y ∷ ys) (suc k)
same_more m t y ys k e f =
    let here : (zs : List Line) → changes t (y ∷ zs) ≡ changes t zs = λ zs. cond-true _ _ _ e in
    record {
      leading = omega (arith, f.leading);
      within = omega (arith, here (take k ys), f.within);
      full = ⊎_elim (λ w. inl (ap suc w)) (λ l. inr (omega (arith, l.0), here (take (suc k) ys) ∙ l.1)) f.full;
    }

-- one line more that begins another total
next_more : (m t : ℕ) (y : Line) (ys : List Line) (k : ℕ) → eqb y.total t ≡ false → Follows m y.total ys k → Follows (suc m) t (y ∷ ys) (suc k)
next_more m t y ys k e f =
    let here : (zs : List Line) → changes t (y ∷ zs) ≡ suc (changes y.total zs) = λ zs. cond-false _ _ _ e in
    record {
      leading = omega (arith, f.leading);
      within = omega (arith, here (take k ys), f.within);
      full = ⊎_elim (λ w. inl (ap suc w)) (λ l. inr (omega (arith, l.0), here (take (suc k) ys) ∙ ap suc l.1)) f.full;
    }

pub follow_falls : (m t : ℕ) (ys : List Line) → Follows m t ys (follow m t ys)
follow_falls zero t [] = record { leading = omega arith; within = omega arith; full = inl refl }
follow_falls (suc m) t [] = record { leading = omega arith; within = omega arith; full = inl refl }
follow_falls zero t (y ∷ ys) =
    cond_both (eqb y.total t) (suc (follow zero t ys)) 0 (Follows zero t (y ∷ ys))
    (λ e. same_more zero t y ys (follow zero t ys) e (follow_falls zero t ys))
    (λ e. record { leading = omega arith; within = omega arith; full = inr (omega arith, cond-false _ _ _ e) })
follow_falls (suc m) t (y ∷ ys) =
    cond_both (eqb y.total t) (suc (follow (suc m) t ys)) (suc (follow m y.total ys)) (Follows (suc m) t (y ∷ ys))
    (λ e. same_more (suc m) t y ys (follow (suc m) t ys) e (follow_falls (suc m) t ys))
    (λ e. next_more m t y ys (follow m y.total ys) e (follow_falls m y.total ys))

-- the number of lines that the definition gives is where the cut falls
pub keeps_falls : (w : ℕ) (ys : List Line) → Falls w ys (keeps w ys)
keeps_falls zero [] = record { leading = omega arith; within = omega arith; full = inl refl }
keeps_falls (suc w) [] = record { leading = omega arith; within = omega arith; full = inl refl }
keeps_falls zero (y ∷ ys) = record { leading = omega arith; within = omega arith; full = inr (omega arith, refl) }
keeps_falls (suc w) (y ∷ ys) =
    let k = follow w y.total ys in
    let f = follow_falls w y.total ys in
    record {
      leading = omega (arith, f.leading);
      within = omega (arith, f.within);
      full = ⊎_elim (λ e. inl (ap suc e))
          (λ l. inr (omega (arith, l.0), ap (λ n. neighbouring (take n (y ∷ ys))) (add-one (suc k)) ∙ (ap suc l.1 ∙ sym (add-one (suc w)))))
          f.full;
    }
