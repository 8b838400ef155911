-- Lists of uses: the bound as a test, and seats set to 0. Assumes nothing.
use Rattle.std.proofs.Common.{◌≡◌, ℕ, zero, suc, ◌<◌, ◌≤◌, Bool, true, false, cond, List, [], ◌∷◌, length, get_or, refl, ap, ◌∙◌, arith}
use Rattle.std.proofs.lemmas.Bool.{le-leb, and_from}
use Rattle.usage.specs.UsesLists.{UsesList, small, cleared}

pub all_small : (us : List ℕ) → ((k : ℕ) → get_or us k 0 ≤ 100000000) → small us ≡ true
all_small [] f = refl
all_small (u ∷ us) f = and_from _ _ (le-leb u 100000000 (f 0)) (all_small us (λ k. f (suc k)))

-- what holds each use but the flagged ones, which are 0, is the cleared list
pub cleared_is : (fs : List Bool) (us vs : List ℕ) → length fs ≡ length us → length vs ≡ length us
    → ((k : ℕ) → k < length us → get_or vs k 0 ≡ cond (get_or fs k false) 0 (get_or us k 0)) → vs ≡ cleared fs us
cleared_is [] [] [] a b f = refl
cleared_is [] [] (v ∷ vs) a b f = absurd (omega arith)
cleared_is [] (u ∷ us) vs a b f = absurd (omega arith)
cleared_is (g ∷ fs) [] vs a b f = absurd (omega arith)
cleared_is (g ∷ fs) (u ∷ us) [] a b f = absurd (omega arith)
cleared_is (g ∷ fs) (u ∷ us) (v ∷ vs) a b f =
    let e = cleared_is fs us vs (omega arith) (omega arith) (λ k lt. f (suc k) (omega arith)) in
    ap (λ x. x ∷ vs) (f 0 (omega arith)) ∙ ap (λ xs. cond g 0 u ∷ xs) e

clear_low : (f : Bool) (u : ℕ) → cond f 0 u ≤ u
clear_low true u = omega arith
clear_low false u = omega arith

pub cleared_low : (fs : List Bool) (us : List ℕ) (k : ℕ) → get_or (cleared fs us) k 0 ≤ get_or us k 0
cleared_low [] us k = omega arith
cleared_low (f ∷ fs) [] k = omega arith
cleared_low (f ∷ fs) (u ∷ us) zero = clear_low f u
cleared_low (f ∷ fs) (u ∷ us) (suc k) = cleared_low fs us k

pub cleared_length : (fs : List Bool) (us : List ℕ) → length (cleared fs us) ≡ length us
cleared_length [] us = refl
cleared_length (f ∷ fs) [] = refl
cleared_length (f ∷ fs) (u ∷ us) = ap suc (cleared_length fs us)

-- what is no higher at any seat than a list of uses, and as long, is a list of uses
pub lower_uses : (us vs : List ℕ) → length vs ≡ length us → ((k : ℕ) → get_or vs k 0 ≤ get_or us k 0) → UsesList us → UsesList vs
lower_uses us vs l f u = record { seats = l ∙ u.seats; bounded = λ k. omega (arith, f k, u.bounded k) }

pub cleared_uses : (fs : List Bool) (us : List ℕ) → UsesList us → UsesList (cleared fs us)
cleared_uses fs us u = lower_uses us (cleared fs us) (cleared_length fs us) (cleared_low fs us) u
