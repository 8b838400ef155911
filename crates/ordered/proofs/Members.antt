-- Which items a list has, after each way to make one. Assumes nothing.
use Rattle.std.proofs.Common.{◌≡◌, ℕ, zero, suc, ◌<◌, Bool, true, ◌⊎◌, List, [], ◌∷◌, ◌++◌, map, length, get_or, take, drop, sym, refl, ap, ◌∙◌, subst, inl, inr, ⊎_elim, arith, take-append-drop}
use Rattle.std.proofs.lemmas.Bool.{and_parts, and_from, cond_both}
use Rattle.ordered.specs.Inserting.{insert}
use Rattle.ordered.specs.Ascending.{all}
use Rattle.ordered.specs.Members.{Among}

module _ {X : Type 0} where
  -- what passes at each item passes at one that is in the list, and the other way
  pub all_among : (p : X → Bool) (xs : List X) (x : X) → all p xs ≡ true → Among x xs → p x ≡ true
  all_among p [] x a m = absurd m
  all_among p (y ∷ ys) x a m =
      let h = and_parts (p y) (all p ys) a in ⊎_elim (λ e. ap p e ∙ h.0) (λ k. all_among p ys x h.1 k) m

  pub among_all : (p : X → Bool) (xs : List X) → ((x : X) → Among x xs → p x ≡ true) → all p xs ≡ true
  among_all p [] f = refl
  among_all p (y ∷ ys) f = and_from _ _ (f y (inl refl)) (among_all p ys (λ x m. f x (inr m)))

  pub among_append : (x : X) (xs ys : List X) → Among x (xs ++ ys) → Among x xs ⊎ Among x ys
  among_append x [] ys m = inr m
  among_append x (z ∷ zs) ys m = ⊎_elim (λ e. inl (inl e)) (λ k. ⊎_elim (λ a. inl (inr a)) inr (among_append x zs ys k)) m

  pub append_among : (x : X) (xs ys : List X) → Among x xs ⊎ Among x ys → Among x (xs ++ ys)
  append_among x [] ys m = ⊎_elim (λ n. absurd n) (λ k. k) m
  append_among x (z ∷ zs) ys m = ⊎_elim (⊎_elim inl (λ k. inr (append_among x zs ys (inl k)))) (λ k. inr (append_among x zs ys (inr k))) m

  -- an item is in the first n or behind them
  pub among_split : (x : X) (n : ℕ) (xs : List X) → Among x xs → Among x (take n xs) ⊎ Among x (drop n xs)
  among_split x n xs m = among_append x (take n xs) (drop n xs) (subst (Among x) (sym (take-append-drop n xs)) m)

  pub among_take : (x : X) (n : ℕ) (xs : List X) → Among x (take n xs) → Among x xs
  among_take x n xs m = subst (Among x) (take-append-drop n xs) (append_among x (take n xs) (drop n xs) (inl m))

  pub among_get_or : (xs : List X) (k : ℕ) (d : X) → k < length xs → Among (get_or xs k d) xs
  among_get_or [] k d h = absurd (omega arith)
  among_get_or (x ∷ xs) zero d h = inl refl
  among_get_or (x ∷ xs) (suc k) d h = inr (among_get_or xs k d (omega arith))

  pub among_insert : (before : X → X → Bool) (l x : X) (ys : List X) → Among l (insert before x ys) → (l ≡ x) ⊎ Among l ys
  among_insert before l x [] h = h
  among_insert before l x (y ∷ ys) h =
      cond_both (before x y) (x ∷ y ∷ ys) (y ∷ insert before x ys) (λ zs. Among l zs → (l ≡ x) ⊎ ((l ≡ y) ⊎ Among l ys))
      (λ _ g. g)
      (λ _. ⊎_elim (λ e. inr (inl e)) (λ m. ⊎_elim inl (λ k. inr (inr k)) (among_insert before l x ys m))) h

  pub insert_among : (before : X → X → Bool) (l x : X) (ys : List X) → (l ≡ x) ⊎ Among l ys → Among l (insert before x ys)
  insert_among before l x [] h = h
  insert_among before l x (y ∷ ys) h =
      cond_both (before x y) (x ∷ y ∷ ys) (y ∷ insert before x ys) (Among l)
      (λ _. h)
      (λ _. ⊎_elim (λ e. inr (insert_among before l x ys (inl e))) (⊎_elim inl (λ m. inr (insert_among before l x ys (inr m)))) h)

pub among_map : {X Y : Type 0} (f : X → Y) (y : Y) (xs : List X) → Among y (map f xs) → (x : X) × Among x xs × (y ≡ f x)
among_map f y [] m = absurd m
among_map f y (x ∷ xs) m = ⊎_elim (λ e. (x, inl refl, e)) (λ k. let h = among_map f y xs k in (h.0, inr h.1, h.2)) m

pub map_among : {X Y : Type 0} (f : X → Y) (x : X) (xs : List X) → Among x xs → Among (f x) (map f xs)
map_among f x [] m = absurd m
map_among f x (y ∷ ys) m = ⊎_elim (λ e. inl (ap f e)) (λ k. inr (map_among f x ys k)) m
