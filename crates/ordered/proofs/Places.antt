-- Lists in order, place by place. Assumes nothing.
use Rattle.std.proofs.Common.{◌≡◌, ℕ, zero, suc, ◌<◌, Bool, true, List, [], ◌∷◌, map, Some, None, sym, refl, subst, arith}
use Rattle.std.specs.List.{slice_get}
use Rattle.std.proofs.lemmas.Bool.{and_parts, and_from}
use Rattle.ordered.specs.Ascending.{all, ascending}

none_some : {X : Type 0} (x : X) → None ≡ Some x → ⊥
none_some x e = let z : ◌≡◌ {A = ℕ} 0 1 = cc in omega arith

pub all_nth : {X : Type 0} (p : X → Bool) (xs : List X) → all p xs ≡ true → (k : ℕ) (x : X) → slice_get xs k ≡ Some x → p x ≡ true
all_nth p [] e k x h = absurd (none_some x h)
all_nth p (y ∷ ys) e zero x h = let s : y ≡ x = cc in subst (λ z. p z ≡ true) s (and_parts (p y) (all p ys) e).0
all_nth p (y ∷ ys) e (suc k) x h = all_nth p ys (and_parts (p y) (all p ys) e).1 k x h

pub nth_all : {X : Type 0} (p : X → Bool) (xs : List X) → ((k : ℕ) (x : X) → slice_get xs k ≡ Some x → p x ≡ true) → all p xs ≡ true
nth_all p [] f = refl
nth_all p (y ∷ ys) f = and_from _ _ (f 0 y refl) (nth_all p ys (λ k x h. f (suc k) x h))

module _ {X : Type 0} (before : X → X → Bool) where
  -- of two places of a list in order, the item at the lower stands before the other
  pub ascending_nth : (xs : List X) → ascending before xs ≡ true → (i j : ℕ) (x y : X) → i < j → slice_get xs i ≡ Some x → slice_get xs j ≡ Some y → before x y ≡ true
  ascending_nth [] e i j x y l h k = absurd (none_some x h)
  ascending_nth (z ∷ zs) e zero zero x y l h k = absurd (omega arith)
  ascending_nth (z ∷ zs) e zero (suc j) x y l h k =
      let s : z ≡ x = cc in
      subst (λ w. before w y ≡ true) s (all_nth (before z) zs (and_parts (all (before z) zs) (ascending before zs) e).0 j y k)
  ascending_nth (z ∷ zs) e (suc i) zero x y l h k = absurd (omega arith)
  ascending_nth (z ∷ zs) e (suc i) (suc j) x y l h k = ascending_nth zs (and_parts (all (before z) zs) (ascending before zs) e).1 i j x y (omega arith) h k

  -- and a list of which that holds is in order
  pub nth_ascending : (xs : List X) → ((i j : ℕ) (x y : X) → i < j → slice_get xs i ≡ Some x → slice_get xs j ≡ Some y → before x y ≡ true) → ascending before xs ≡ true
  nth_ascending [] f = refl
  nth_ascending (z ∷ zs) f =
      and_from _ _
      (nth_all (before z) zs (λ k y h. f 0 (suc k) z y (omega arith) refl h))
      (nth_ascending zs (λ i j x y l h k. f (suc i) (suc j) x y (omega arith) h k))

-- an item of a mapped list comes from the item at its place
pub nth_of_map : {X Y : Type 0} (f : X → Y) (xs : List X) (k : ℕ) (y : Y) → slice_get (map f xs) k ≡ Some y → (x : X) × (slice_get xs k ≡ Some x) × (y ≡ f x)
nth_of_map f [] k y e = absurd (none_some y e)
nth_of_map f (x ∷ xs) zero y e = (x, refl, (let s : f x ≡ y = cc in sym s))
nth_of_map f (x ∷ xs) (suc k) y e = nth_of_map f xs k y e
