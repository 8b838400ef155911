-- Lists in order, one item more in order, and what that says of any two places. Assumes nothing.
use Rattle.std.proofs.Common.{◌≡◌, ℕ, zero, suc, ◌+◌, ◌<◌, Bool, true, cond, ◌||◌, List, [], ◌∷◌, ◌++◌, map, length, get_or, take, drop, sym, refl, ap, ◌∙◌, ⊎_elim, add-one, arith}
use Rattle.std.proofs.lemmas.List.{take_at, length-take-le}
use Rattle.std.proofs.lemmas.Bool.{and_parts, and_from, or_cases, cond_both, cond-true, cond-false, both_ways}
use Rattle.ordered.specs.Inserting.{insert}
use Rattle.ordered.specs.Ascending.{all, ascending}

-- what passes at each item passes at each place
pub all_at : {X : Type 0} (p : X → Bool) (xs : List X) → all p xs ≡ true → (k : ℕ) (d : X) → k < length xs → p (get_or xs k d) ≡ true
all_at p [] e k d h = absurd (omega arith)
all_at p (x ∷ xs) e zero d h = (and_parts (p x) (all p xs) e).0
all_at p (x ∷ xs) e (suc k) d h = all_at p xs (and_parts (p x) (all p xs) e).1 k d (omega arith)

pub all_weak : {X : Type 0} (p q : X → Bool) → ((x : X) → p x ≡ true → q x ≡ true) → (xs : List X) → all p xs ≡ true → all q xs ≡ true
all_weak p q f [] e = refl
all_weak p q f (x ∷ xs) e = let h = and_parts (p x) (all p xs) e in and_from _ _ (f x h.0) (all_weak p q f xs h.1)

module _ {X : Type 0} (before : X → X → Bool) where
  -- of two places of a list in order, the item at the lower stands before the other
  pub ascending_at : (xs : List X) → ascending before xs ≡ true → (i j : ℕ) (d : X) → i < j → j < length xs → before (get_or xs i d) (get_or xs j d) ≡ true
  ascending_at [] e i j d l h = absurd (omega arith)
  ascending_at (x ∷ xs) e zero zero d l h = absurd (omega arith)
  ascending_at (x ∷ xs) e zero (suc j) d l h = all_at (before x) xs (and_parts (all (before x) xs) (ascending before xs) e).0 j d (omega arith)
  ascending_at (x ∷ xs) e (suc i) zero d l h = absurd (omega arith)
  ascending_at (x ∷ xs) e (suc i) (suc j) d l h = ascending_at xs (and_parts (all (before x) xs) (ascending before xs) e).1 i j d (omega arith) (omega arith)

  pub all_insert : (p : X → Bool) (x : X) (ys : List X) → p x ≡ true → all p ys ≡ true → all p (insert before x ys) ≡ true
  all_insert p x [] h a = and_from _ _ h refl
  all_insert p x (y ∷ ys) h a =
      cond_both (before x y) (x ∷ y ∷ ys) (y ∷ insert before x ys) (λ zs. all p zs ≡ true)
      (λ _. and_from _ _ h a)
      (λ _. let b = and_parts (p y) (all p ys) a in and_from _ _ b.0 (all_insert p x ys h b.1))

  pub length_insert : (x : X) (ys : List X) → length (insert before x ys) ≡ suc (length ys)
  length_insert x [] = refl
  length_insert x (y ∷ ys) =
      cond_both (before x y) (x ∷ y ∷ ys) (y ∷ insert before x ys) (λ zs. length zs ≡ suc (suc (length ys))) (λ _. refl) (λ _. ap suc (length_insert x ys))

  -- the held items after one was put
  pub take_put : (x : X) (xs : List X) (n : ℕ) → n < length xs → take (n + 1) (insert before x (take n xs) ++ drop (n + 1) xs) ≡ insert before x (take n xs)
  take_put x xs n h =
      take_at (insert before x (take n xs)) (drop (n + 1) xs) (n + 1)
      (length_insert x (take n xs) ∙ (ap suc (length-take-le n xs (omega arith)) ∙ sym (add-one n)))

  -- an item that stands before or behind each of the others leaves them in order
  pub ascending_insert : ((a b c : X) → before a b ≡ true → before b c ≡ true → before a c ≡ true) → (x : X) (ys : List X)
      → ascending before ys ≡ true → all (λ y. before x y || before y x) ys ≡ true → ascending before (insert before x ys) ≡ true
  ascending_insert trans x [] a ne = refl
  ascending_insert trans x (y ∷ ys) a ne =
      let b = and_parts (all (before y) ys) (ascending before ys) a in
      let apart = and_parts (before x y || before y x) (all (λ z. before x z || before z x) ys) ne in
      cond_both (before x y) (x ∷ y ∷ ys) (y ∷ insert before x ys) (λ zs. ascending before zs ≡ true)
      (λ h. and_from _ _ (and_from _ _ h (all_weak (before y) (before x) (λ z g. trans x y z h g) ys b.0)) a)
      (λ h.
      let behind : before y x ≡ true = ⊎_elim (λ e. absurd (both_ways (before x y) h e)) (λ e. e) (or_cases (before x y) (before y x) apart.0) in
      and_from _ _ (all_insert (before y) x ys behind b.0) (ascending_insert trans x ys b.1 apart.1))

-- inserting goes with a map that keeps the order
pub map_insert : {X Y : Type 0} (f : X → Y) (before : X → X → Bool) (first : Y → Y → Bool) → ((a b : X) → before a b ≡ first (f a) (f b))
    → (x : X) (ys : List X) → map f (insert before x ys) ≡ insert first (f x) (map f ys)
map_insert f before first same x [] = refl
map_insert f before first same x (y ∷ ys) =
    cond_both (before x y) (x ∷ y ∷ ys) (y ∷ insert before x ys) (λ zs. map f zs ≡ cond (first (f x) (f y)) (f x ∷ f y ∷ map f ys) (f y ∷ insert first (f x) (map f ys)))
    (λ h. sym (cond-true _ _ _ (sym (same x y) ∙ h)))
    (λ h. ap (λ zs. f y ∷ zs) (map_insert f before first same x ys) ∙ sym (cond-false _ _ _ (sym (same x y) ∙ h)))
