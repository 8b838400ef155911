-- What the members use together, and steps of the loop that draws a group. Assumes nothing.
use Rattle.std.proofs.Common.{◌≡◌, ℕ, zero, suc, ◌+◌, ◌-◌, ◌*◌, ◌/◌, ◌<◌, ◌≤◌, min, sum, refl, Bool, true, false, eqb, List, [], ◌∷◌, ◌++◌, length, get_or, take, drop, set, sym, ap, ◌∙◌, append_assoc, arith, length-set}
use native.Mathlib.Nat.{sub-zero}
use Rattle.std.proofs.lemmas.Bool.{ne_eqb}
use Rattle.std.proofs.lemmas.List.Sums.{sum_by-cons}
use Rattle.std.proofs.lemmas.List.{drop_more, drop_all, take_all, take_more_set, append-nil}
use Rattle.usage.specs.Drawing.{used, used_at, draws, fallen, drawn}

-- what is left of the list from a seat on
abbrev pub left : ℕ → ℕ → ℕ → List Bool → List ℕ → List ℕ
left q s p ms us = fallen us (draws q s p ms us)

module _ (ms : List Bool) (us : List ℕ) (i : ℕ) (in-ms : i < length ms) (in-us : i < length us) where
  pub used_in : get_or ms i false ≡ true → used (drop i ms) (drop i us) ≡ get_or us i 0 + used (drop (i + 1) ms) (drop (i + 1) us)
  used_in e = rw (drop_more ms i false in-ms, drop_more us i 0 in-us, e)

  pub used_out : get_or ms i false ≡ false → used (drop i ms) (drop i us) ≡ used (drop (i + 1) ms) (drop (i + 1) us)
  used_out e = rw (drop_more ms i false in-ms, drop_more us i 0 in-us, e)

  pub left_in : (q s p : ℕ) → get_or ms i false ≡ true
      → left q s p (drop i ms) (drop i us) ≡ (get_or us i 0 - (q * (p + get_or us i 0) / s - q * p / s)) ∷ left q s (p + get_or us i 0) (drop (i + 1) ms) (drop (i + 1) us)
  left_in q s p e = rw (drop_more ms i false in-ms, drop_more us i 0 in-us, e)

  pub left_out : (q s p : ℕ) → get_or ms i false ≡ false
      → left q s p (drop i ms) (drop i us) ≡ get_or us i 0 ∷ left q s p (drop (i + 1) ms) (drop (i + 1) us)
  left_out q s p e = rw (drop_more ms i false in-ms, drop_more us i 0 in-us, e, sub-zero)

pub left_end : (q s p : ℕ) (ms : List Bool) (us : List ℕ) (i : ℕ) → length us ≤ i → left q s p (drop i ms) (drop i us) ≡ []
left_end q s p ms us i over = rw (drop_all i us over)

-- one more number written where the rest of the answer was still to come
pub written : (parts rest whole : List ℕ) (i x : ℕ) → i < length parts → take i parts ++ (x ∷ rest) ≡ whole → take (i + 1) (set parts i x) ++ rest ≡ whole
written parts rest whole i x h e = rw (take_more_set parts i x h, append_assoc) e

-- where the drawing loop stands at seat i: what is written, what the members so far use, and the floor of their share
abbrev pub Drawing : List Bool → List ℕ → ℕ → ℕ → ℕ → List ℕ → ℕ → ℕ → Type 0
Drawing ms us q s i parts p before =
    (length parts ≡ 16)
    × (p + used (drop i ms) (drop i us) ≡ s)
    × (before ≡ q * p / s)
    × (take i parts ++ left q s p (drop i ms) (drop i us) ≡ left q s 0 ms us)

module _ (ms : List Bool) (us : List ℕ) (q s i : ℕ) (parts : List ℕ) (p before : ℕ)
    (in-ms : i < length ms) (in-us : i < length us) (in_parts : i < length parts) (so : Drawing ms us q s i parts p before)
    (parts' : List ℕ) (p' before' : ℕ) where
  pub drawing_in : get_or ms i false ≡ true
      → parts' ≡ set parts i (get_or us i 0 - (q * (p + get_or us i 0) / s - before)) → p' ≡ p + get_or us i 0 → before' ≡ q * (p + get_or us i 0) / s
      → Drawing ms us q s (i + 1) parts' p' before'
  drawing_in e wrote grown floored =
      let u = get_or us i 0 in
      let all = left q s 0 ms us in
      let rest = left q s (p + u) (drop (i + 1) ms) (drop (i + 1) us) in
      let x = u - (q * (p + u) / s - before) in
      let next : take i parts ++ (x ∷ rest) ≡ all = rw so.2 (rw (left_in ms us i in-ms in-us q s p e) at so.3) in
      let is : take (i + 1) (set parts i x) ++ rest ≡ all = written parts rest all i x in_parts next in (
        ap length wrote ∙ (length-set parts i x ∙ so.0),
        omega (arith, used_in ms us i in-ms in-us e),
        (cc),
        rw (wrote, grown) is,
      )

  pub drawing_out : get_or ms i false ≡ false
      → parts' ≡ set parts i (get_or us i 0) → p' ≡ p → before' ≡ before
      → Drawing ms us q s (i + 1) parts' p' before'
  drawing_out e wrote same kept =
      let u = get_or us i 0 in
      let all = left q s 0 ms us in
      let rest = left q s p (drop (i + 1) ms) (drop (i + 1) us) in
      let next : take i parts ++ (u ∷ rest) ≡ all = rw (left_out ms us i in-ms in-us q s p e) at so.3 in
      let is : take (i + 1) (set parts i u) ++ rest ≡ all = written parts rest all i u in_parts next in (
        ap length wrote ∙ (length-set parts i u ∙ so.0),
        omega (arith, used_out ms us i in-ms in-us e),
        (cc),
        rw (wrote, same) is,
      )

drawing_end : (ms : List Bool) (us : List ℕ) (q s i : ℕ) (parts : List ℕ) (p before : ℕ)
    → length us ≤ i → length parts ≤ i → Drawing ms us q s i parts p before → parts ≡ left q s 0 ms us
drawing_end ms us q s i parts p before over past so =
    let a : left q s p (drop i ms) (drop i us) ≡ [] = left_end q s p ms us i over in
    let b : take i parts ≡ parts = take_all i parts past in
    let d : parts ++ left q s p (drop i ms) (drop i us) ≡ left q s 0 ms us = rw b at so.3 in
    let e : parts ++ [] ≡ left q s 0 ms us = rw a at d in
    sym (append-nil parts) ∙ e

-- no use is higher than before, whatever is drawn
pub fallen_le : (us ds : List ℕ) (k : ℕ) → get_or (fallen us ds) k 0 ≤ get_or us k 0
fallen_le [] ds k = omega arith
fallen_le (u ∷ us) [] k = omega arith
fallen_le (u ∷ us) (d ∷ ds) zero = omega arith
fallen_le (u ∷ us) (d ∷ ds) (suc k) = fallen_le us ds k

-- what the loop has written at its end is the list after the drawing
pub drawing_all : (ms : List Bool) (us : List ℕ) (units q s i : ℕ) (parts : List ℕ) (p before : ℕ)
    → s ≡ used ms us → q ≡ min s (units * 1000) → 0 < s → length us ≤ i → length parts ≤ i → Drawing ms us q s i parts p before → parts ≡ drawn ms units us
drawing_all ms us units q s i parts p before sum part pos over past so =
    let e : parts ≡ left q s 0 ms us = drawing_end ms us q s i parts p before over past so in
    let some : eqb (used ms us) 0 ≡ false = ne_eqb (used ms us) 0 (λ z. omega arith) in
    rw (some, ← sum, ← part) e

-- numbers that are what each seat adds to S
pub used_is : (ms : List Bool) (us ys : List ℕ) → length us ≡ length ms → length ys ≡ length ms
    → ((k : ℕ) → k < length ms → get_or ys k 0 ≡ used_at (get_or ms k false) (get_or us k 0)) → sum ys ≡ used ms us
used_is [] [] [] a b f = refl
used_is [] [] (y ∷ ys) a b f = absurd (omega arith)
used_is [] (u ∷ us) ys a b f = absurd (omega arith)
used_is (m ∷ ms) [] ys a b f = absurd (omega arith)
used_is (m ∷ ms) (u ∷ us) [] a b f = absurd (omega arith)
used_is (true ∷ ms) (u ∷ us) (y ∷ ys) a b f =
    let e : y ≡ u = f 0 (omega arith) in
    let more = used_is ms us ys (omega arith) (omega arith) (λ k lt. f (suc k) (omega arith)) in
    sum_by-cons (λ y. y) y ys ∙ ap (λ n. n + sum ys) e ∙ ap (λ n. u + n) more
used_is (false ∷ ms) (u ∷ us) (y ∷ ys) a b f =
    let e : y ≡ 0 = f 0 (omega arith) in
    let more = used_is ms us ys (omega arith) (omega arith) (λ k lt. f (suc k) (omega arith)) in
    omega (arith, sum_by-cons (λ y. y) y ys)

-- a seat adds no more than its use
pub used_at_within : (m : Bool) (u : ℕ) → used_at m u ≤ u
used_at_within true u = omega arith
used_at_within false u = omega arith
