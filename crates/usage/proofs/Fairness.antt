-- Why every drawing of a group is fair. Assumes nothing.
use Rattle.std.proofs.Common.{◌≡◌, ℕ, zero, suc, ◌+◌, ◌-◌, ◌*◌, ◌/◌, ◌<◌, ◌≤◌, Bool, true, false, eqb, List, [], ◌∷◌, length, get_or, refl, ap, add-zero, add_assoc, mul-add, arith}
use Rattle.std.proofs.lemmas.Bool.{eqb-true, eqb-false, cond_both, true≢false, false≢true}
use Rattle.usage.specs.Drawing.{used, draws, fallen, given_out, drawn}
use Rattle.usage.specs.Laws.{sum_of, NearShare, FairDraw}
use Rattle.usage.proofs.Floors.{floor_more, floor_near, floor_between, floor_whole, floor_none}
use Rattle.usage.proofs.Steps.{fallen_le}

-- the draws telescope
draws_sum : (q s p : ℕ) (ms : List Bool) (us : List ℕ) → 0 < s → sum_of (draws q s p ms us) + q * p / s ≡ q * (p + used ms us) / s
draws_sum q s p [] us pos = simp add-zero (omega arith)
draws_sum q s p (m ∷ ms) [] pos = simp add-zero (omega arith)
draws_sum q s p (true ∷ ms) (u ∷ us) pos =
    let rest : sum_of (draws q s (p + u) ms us) + q * (p + u) / s ≡ q * (p + u + used ms us) / s = draws_sum q s (p + u) ms us pos in
    let up : q * p / s ≤ q * (p + u) / s = floor_more q s p u pos in
    let same : q * (p + u + used ms us) / s ≡ q * (p + (u + used ms us)) / s = ap (λ n. q * n / s) (add_assoc p u (used ms us)) in
    omega arith
draws_sum q s p (false ∷ ms) (u ∷ us) pos = let rest = draws_sum q s p ms us pos in omega arith

fallen_sum : (q s p : ℕ) (ms : List Bool) (us : List ℕ) → 0 < s → q ≤ s
    → sum_of (fallen us (draws q s p ms us)) + sum_of (draws q s p ms us) ≡ sum_of us
fallen_sum q s p [] [] pos le = refl
fallen_sum q s p [] (u ∷ us) pos le = omega arith
fallen_sum q s p (m ∷ ms) [] pos le = refl
fallen_sum q s p (true ∷ ms) (u ∷ us) pos le =
    let rest = fallen_sum q s (p + u) ms us pos le in
    let near : q * (p + u) / s ≤ q * p / s + u = floor_near q s p u pos le in
    omega arith
fallen_sum q s p (false ∷ ms) (u ∷ us) pos le = let rest = fallen_sum q s p ms us pos le in omega arith

keeps_length_of : (us ds : List ℕ) → length (fallen us ds) ≡ length us
keeps_length_of [] ds = refl
keeps_length_of (u ∷ us) [] = refl
keeps_length_of (u ∷ us) (d ∷ ds) = ap suc (keeps_length_of us ds)

-- what holds of the list as it is, where nothing is used, and of the fallen list, elsewhere, holds of the drawn list
by_drawn : (ms : List Bool) (units : ℕ) (us : List ℕ) (P : List ℕ → Type 0)
    → (used ms us ≡ 0 → P us) → (0 < used ms us → P (fallen us (draws (given_out ms units us) (used ms us) 0 ms us)))
    → P (drawn ms units us)
by_drawn ms units us P none some =
    cond_both (eqb (used ms us) 0) us (fallen us (draws (given_out ms units us) (used ms us) 0 ms us)) P
    (λ e. none (eqb-true (used ms us) 0 e))
    (λ e. some (omega (arith, eqb-false (used ms us) 0 e)))

-- the draw at a seat, against the use there
Fair : ℕ → ℕ → ℕ → ℕ → Type 0
Fair q s u d = (d ≤ u) × NearShare q s u d

draws_fair : (q s p : ℕ) (ms : List Bool) (us : List ℕ) (k : ℕ) → 0 < s → q ≤ s → k < length us → get_or ms k false ≡ true
    → Fair q s (get_or us k 0) (get_or (draws q s p ms us) k 0)
unfolding Fair
draws_fair q s p [] us k pos le lt is = absurd (false≢true is)
draws_fair q s p (m ∷ ms) [] k pos le lt is = absurd (omega arith)
draws_fair q s p (true ∷ ms) (u ∷ us) zero pos le lt is =
    let near : q * (p + u) / s ≤ q * p / s + u = floor_near q s p u pos le in
    (omega arith, (rw mul-add (floor_between s (q * p) (q * u) pos).0, rw mul-add (floor_between s (q * p) (q * u) pos).1))
draws_fair q s p (false ∷ ms) (u ∷ us) zero pos le lt is = absurd (false≢true is)
draws_fair q s p (true ∷ ms) (u ∷ us) (suc k) pos le lt is = draws_fair q s (p + u) ms us k pos le (omega arith) is
draws_fair q s p (false ∷ ms) (u ∷ us) (suc k) pos le lt is = draws_fair q s p ms us k pos le (omega arith) is

draws_others : (q s p : ℕ) (ms : List Bool) (us : List ℕ) (k : ℕ) → get_or ms k false ≡ false → get_or (draws q s p ms us) k 0 ≡ 0
draws_others q s p [] us k is = refl
draws_others q s p (m ∷ ms) [] k is = refl
draws_others q s p (true ∷ ms) (u ∷ us) zero is = absurd (true≢false is)
draws_others q s p (false ∷ ms) (u ∷ us) zero is = refl
draws_others q s p (true ∷ ms) (u ∷ us) (suc k) is = draws_others q s (p + u) ms us k is
draws_others q s p (false ∷ ms) (u ∷ us) (suc k) is = draws_others q s p ms us k is

fallen_at : (us ds : List ℕ) (k : ℕ) → get_or (fallen us ds) k 0 ≡ get_or us k 0 - get_or ds k 0
fallen_at [] ds k = omega arith
fallen_at (u ∷ us) [] k = omega arith
fallen_at (u ∷ us) (d ∷ ds) zero = refl
fallen_at (u ∷ us) (d ∷ ds) (suc k) = fallen_at us ds k

gives_all : (ms : List Bool) (units : ℕ) (us : List ℕ) → sum_of (drawn ms units us) + given_out ms units us ≡ sum_of us
gives_all ms units us =
    let s = used ms us in
    let q = given_out ms units us in
    by_drawn ms units us (λ xs. sum_of xs + q ≡ sum_of us)
    (λ e. omega arith)
    (λ pos.
    let a = fallen_sum q s 0 ms us pos (omega arith) in
    let b : sum_of (draws q s 0 ms us) + q * 0 / s ≡ q * (0 + s) / s = draws_sum q s 0 ms us pos in
    let same : q * (0 + s) / s ≡ q * s / s = ap (λ n. q * n / s) (omega arith) in
    omega (arith, floor_whole q s pos, floor_none q s))

pub drawn_fair : (ms : List Bool) (units : ℕ) (us : List ℕ) → FairDraw ms units us (drawn ms units us)
unfolding Fair
drawn_fair ms units us =
    let s = used ms us in
    let q = given_out ms units us in
    let ds = draws q s 0 ms us in
    record {
      keeps = by_drawn ms units us (λ xs. length xs ≡ length us) (λ e. refl) (λ e. keeps_length_of us ds);
      gives_out = gives_all ms units us;
      lowers = λ k. by_drawn ms units us (λ xs. get_or xs k 0 ≤ get_or us k 0) (λ e. omega arith) (λ e. fallen_le us ds k);
      others_stay = λ k is.
          by_drawn ms units us (λ xs. get_or xs k 0 ≡ get_or us k 0) (λ e. refl)
          (λ pos. omega (arith, fallen_at us ds k, draws_others q s 0 ms us k is));
      near_share = λ k some lt is.
          by_drawn ms units us (λ xs. NearShare q s (get_or us k 0) (get_or us k 0 - get_or xs k 0))
          (λ e. absurd (omega arith))
          (λ pos.
          let fair = draws_fair q s 0 ms us k pos (omega arith) lt is in
          let d : get_or us k 0 - get_or (fallen us ds) k 0 ≡ get_or ds k 0 = omega (arith, fallen_at us ds k) in
          rw d fair.1);
    }
