-- One turn of a loop over a repeated reading: what is left to read gives what the whole gives. Assumes nothing.
use Rattle.std.proofs.Common.{◌≡◌, ℕ, suc, ◌+◌, ◌-◌, ◌<◌, ◌≤◌, List, sym, refl, ◌∙◌, arith}
use Rattle.cursor.specs.Readings.{Got, Reading, repeated, onward, value, fault}

pub repeated_more : {E S : Type 0} (n i : ℕ) (step : S → Reading E S) (s : S) (xs : List ℕ) (at : ℕ) → i < n → repeated (n - i) step s xs at ≡ onward (step s xs at) (λ t k. repeated (n - (i + 1)) step t xs k)
repeated_more n i step s xs at h =
    let e : n - i ≡ suc (n - (i + 1)) = omega arith in
    rw e refl

pub repeated_ok : {E S : Type 0} (n i : ℕ) (step : S → Reading E S) (s t : S) (xs : List ℕ) (at next : ℕ) (whole : Got E S) → i < n → step s xs at ≡ value t next → repeated (n - i) step s xs at ≡ whole → repeated (n - (i + 1)) step t xs next ≡ whole
repeated_ok n i step s t xs at next whole h e inv =
    let m = repeated_more n i step s xs at h in
    let k : onward (step s xs at) (λ t k. repeated (n - (i + 1)) step t xs k) ≡ repeated (n - (i + 1)) step t xs next = rw e refl in
    sym k ∙ (sym m ∙ inv)

pub repeated_fault : {E S : Type 0} (n i : ℕ) (step : S → Reading E S) (s : S) (xs : List ℕ) (at : ℕ) (f : E) (whole : Got E S) → i < n → step s xs at ≡ fault f → repeated (n - i) step s xs at ≡ whole → whole ≡ fault f
repeated_fault n i step s xs at f whole h e inv =
    let m = repeated_more n i step s xs at h in
    let k : onward (step s xs at) (λ t k. repeated (n - (i + 1)) step t xs k) ≡ fault f = rw e refl in
    sym inv ∙ (m ∙ k)

-- where no turn is left
pub repeated_end : {E S : Type 0} (n i : ℕ) (step : S → Reading E S) (s : S) (xs : List ℕ) (at : ℕ) (whole : Got E S) → n ≤ i → repeated (n - i) step s xs at ≡ whole → whole ≡ value s at
repeated_end n i step s xs at whole h inv =
    let e : n - i ≡ 0 = omega arith in
    sym (rw e at inv)
