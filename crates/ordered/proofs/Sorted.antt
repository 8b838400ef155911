-- Lists by a strict order: their parts, one item more, and that their items fix them. Assumes nothing.
use Rattle.std.proofs.Common.{◌≡◌, ℕ, ◌+◌, ◌<◌, Bool, true, false, ◌||◌, ◌⊎◌, List, [], ◌∷◌, ◌++◌, map, length, get_or, take, drop, sym, refl, ap, ◌∙◌, subst, inl, inr, ⊎_elim, take-append-drop}
use Rattle.std.proofs.lemmas.List.{drop_more}
use Rattle.std.proofs.lemmas.Bool.{and_parts, and_from, or_left, or_right, cases_Bool}
use Rattle.ordered.specs.Inserting.{insert}
use Rattle.ordered.specs.Ascending.{all, ascending}
use Rattle.ordered.specs.Members.{Among, NoRepeats}
use Rattle.ordered.proofs.Members.{all_among, among_all, append_among, among_map}
use Rattle.ordered.proofs.Order.{ascending_insert}

-- no item stands before itself, and of two that differ one stands before the other
pub record Strict {X : Type 0} (before : X → X → Bool) : Type 0 where
  pub trans : (a b c : X) → before a b ≡ true → before b c ≡ true → before a c ≡ true
  pub self : (a : X) → before a a ≡ true → ⊥
  pub other : (a b : X) → before a b ≡ false → (a ≡ b → ⊥) → before b a ≡ true

module _ {X : Type 0} (before : X → X → Bool) where
  -- both parts of a list in order are in order, and each of the first stands before each of the second
  pub ascending_left : (xs ys : List X) → ascending before (xs ++ ys) ≡ true → ascending before xs ≡ true
  ascending_left [] ys a = refl
  ascending_left (x ∷ xs) ys a =
      let h = and_parts (all (before x) (xs ++ ys)) (ascending before (xs ++ ys)) a in
      and_from _ _ (among_all (before x) xs (λ z m. all_among (before x) (xs ++ ys) z h.0 (append_among z xs ys (inl m)))) (ascending_left xs ys h.1)

  pub ascending_right : (xs ys : List X) → ascending before (xs ++ ys) ≡ true → ascending before ys ≡ true
  ascending_right [] ys a = a
  ascending_right (x ∷ xs) ys a = ascending_right xs ys (and_parts (all (before x) (xs ++ ys)) (ascending before (xs ++ ys)) a).1

  pub ascending_across : (xs ys : List X) → ascending before (xs ++ ys) ≡ true → (x y : X) → Among x xs → Among y ys → before x y ≡ true
  ascending_across [] ys a x y m n = absurd m
  ascending_across (z ∷ zs) ys a x y m n =
      let h = and_parts (all (before z) (zs ++ ys)) (ascending before (zs ++ ys)) a in
      ⊎_elim (λ e. ap (λ w. before w y) e ∙ all_among (before z) (zs ++ ys) y h.0 (append_among y zs ys (inr n))) (λ k. ascending_across zs ys h.1 x y k n) m

  -- the same for the first n and those behind them
  split : (n : ℕ) (xs : List X) → ascending before xs ≡ true → ascending before (take n xs ++ drop n xs) ≡ true
  split n xs a = ap (ascending before) (take-append-drop n xs) ∙ a

  pub ascending_take : (n : ℕ) (xs : List X) → ascending before xs ≡ true → ascending before (take n xs) ≡ true
  ascending_take n xs a = ascending_left (take n xs) (drop n xs) (split n xs a)

  pub ascending_drop : (n : ℕ) (xs : List X) → ascending before xs ≡ true → ascending before (drop n xs) ≡ true
  ascending_drop n xs a = ascending_right (take n xs) (drop n xs) (split n xs a)

  pub ascending_cut : (n : ℕ) (xs : List X) → ascending before xs ≡ true → (x y : X) → Among x (take n xs) → Among y (drop n xs) → before x y ≡ true
  ascending_cut n xs a = ascending_across (take n xs) (drop n xs) (split n xs a)

  -- the item at k is the first of those from k on
  pub ascending_first : (k : ℕ) (xs : List X) (d : X) → k < length xs → ascending before xs ≡ true → (y : X) → Among y (drop k xs) → (y ≡ get_or xs k d) ⊎ (before (get_or xs k d) y ≡ true)
  ascending_first k xs d h a y m =
      let rest = drop_more xs k d h in
      let b = ap (ascending before) (sym rest) ∙ ascending_drop k xs a in
      ⊎_elim inl (λ j. inr (all_among (before (get_or xs k d)) (drop (k + 1) xs) y (and_parts _ _ b).0 j)) (subst (Among y) rest m)

module _ {X : Type 0} (before : X → X → Bool) (is : Strict before) where
  -- items that a value of theirs fixes have it once in a list in order
  pub apart_by : {Y : Type 0} (f : X → Y) (g : Y → X) (xs : List X) → ascending before xs ≡ true → ((x : X) → Among x xs → x ≡ g (f x)) → NoRepeats (map f xs)
  apart_by f g [] a s = tt
  apart_by f g (x ∷ xs) a s =
      let h = and_parts (all (before x) xs) (ascending before xs) a in (
        (λ m.
            let k = among_map f (f x) xs m in
            let same : k.0 ≡ x = s k.0 (inr k.1) ∙ ap g (sym k.2) ∙ sym (s x (inl refl)) in
            is.self x (ap (before x) (sym same) ∙ all_among (before x) xs k.0 h.0 k.1)),
        apart_by f g xs h.1 (λ z m. s z (inr m)),
      )

  -- an item that is not there yet is put in order
  pub ascending_put : (x : X) (ys : List X) → ascending before ys ≡ true → (Among x ys → ⊥) → ascending before (insert before x ys) ≡ true
  ascending_put x ys a ne =
      ascending_insert before is.trans x ys a
      (among_all (λ y. before x y || before y x) ys (λ y m.
      ⊎_elim (or_left _ _) (λ f. or_right _ _ (is.other x y f (λ e. ne (subst (λ z. Among z ys) (sym e) m)))) (cases_Bool (before x y))))

  -- two lists in order with the same items are equal
  pub ascending_same : (xs ys : List X) → ascending before xs ≡ true → ascending before ys ≡ true
      → ((x : X) → Among x xs → Among x ys) → ((x : X) → Among x ys → Among x xs) → xs ≡ ys
  ascending_same [] [] a b f g = refl
  ascending_same [] (y ∷ ys) a b f g = absurd (g y (inl refl))
  ascending_same (x ∷ xs) [] a b f g = absurd (f x (inl refl))
  ascending_same (x ∷ xs) (y ∷ ys) a b f g =
      let h = and_parts (all (before x) xs) (ascending before xs) a in
      let k = and_parts (all (before y) ys) (ascending before ys) b in
      let first : x ≡ y =
      ⊎_elim (λ e. e)
      (λ m. ⊎_elim sym
      (λ n. absurd (is.self x (is.trans x y x (all_among (before x) xs y h.0 n) (all_among (before y) ys x k.0 m))))
      (g y (inl refl)))
      (f x (inl refl)) in
      let down : (z : X) → Among z xs → Among z ys = λ z m.
      ⊎_elim (λ e. absurd (is.self x (ap (before x) (first ∙ sym e) ∙ all_among (before x) xs z h.0 m))) (λ n. n) (f z (inr m)) in
      let up : (z : X) → Among z ys → Among z xs = λ z m.
      ⊎_elim (λ e. absurd (is.self y (ap (before y) (sym first ∙ sym e) ∙ all_among (before y) ys z k.0 m))) (λ n. n) (g z (inr m)) in
      ap (λ z. z ∷ xs) first ∙ ap (λ zs. y ∷ zs) (ascending_same xs ys h.1 k.1 down up)
