-- Where an item is put, and what a memory holds when those behind it have moved up. Assumes nothing.
use Rattle.std.proofs.Common.{◌≡◌, ℕ, suc, ◌+◌, ◌-◌, ◌<◌, ◌≤◌, Bool, true, false, cond, List, [], ◌∷◌, ◌++◌, length, get_or, take, drop, set, is_ok, Some, None, Ok, Err, Result, sym, refl, ap, ◌∙◌, ⊎_elim, arith, rules}
use Rattle.std.specs.List.{insert as inserted, position, position_or_len, CopiedTo, SameBelow, SameFrom}
use Rattle.std.proofs.lemmas.List.{same_lists, length-set, places, get_or-set_other, get_or_append_left, get_or-take, length-take-le}
use Rattle.std.proofs.lemmas.List.Edits.{length-insert, get_or-insert_above}
use Rattle.std.proofs.lemmas.Bool.{lt-ltb, le-ltb, cases_lt, cases_order, true≢false, false≢true}
use Rattle.std.specs.Option.{unwrap_or}
use Rattle.std.proofs.Math.Dec.{ltb}
use Rattle.std.proofs.lemmas.List.Recursion.{is_position_or_len}
use Rattle.ordered.specs.declared.Full.{Full}
use Rattle.ordered.specs.Inserting.{insert, spot, Puts}

-- where an item goes is the place of the first item that it stands before, else the end
spot_is : {X : Type 0} (before : X → X → Bool) (x : X) (xs : List X) → spot before x xs ≡ position_or_len (before x) xs
spot_is before x =
    is_position_or_len (spot before x) (before x) refl
    (λ y ys. let e : suc (spot before x ys) ≡ 1 + spot before x ys = omega arith in ap (cond (before x y) 0) e)

pub spot_within : {X : Type 0} (before : X → X → Bool) (x : X) (xs : List X) → spot before x xs ≤ length xs
spot_within before x [] = omega arith
spot_within before x (y ∷ ys) =
    elim (before x y) as (λ b. cond b 0 (suc (spot before x ys)) ≤ suc (length ys)) [ true ↦ omega arith | false ↦ omega (arith, spot_within before x ys) ]

-- a place that is tested to be below the end, or the end
or_end : (n m : ℕ) → n ≤ m → unwrap_or (cond (ltb n m) (Some n) None) m ≡ n
or_end n m w =
    ⊎_elim
    (λ (h : n < m). rw (lt-ltb n m h) refl)
    (λ (h : m ≤ n). rw (le-ltb n m h) (omega arith))
    (cases_lt n m)

pub spot_or_end : {X : Type 0} (before : X → X → Bool) (x : X) (xs : List X) → unwrap_or (position (before x) xs) (length xs) ≡ spot before x xs
spot_or_end before x xs =
    let w : position_or_len (before x) xs ≤ length xs = rw (spot_is before x xs) at (spot_within before x xs) in
    or_end (position_or_len (before x) xs) (length xs) w ∙ sym (spot_is before x xs)

-- an item put at its spot is inserted
insert_is : {X : Type 0} (before : X → X → Bool) (x : X) (xs : List X) → inserted xs (spot before x xs) x ≡ insert before x xs
insert_is before x [] = refl
insert_is before x (y ∷ ys) =
    elim (before x y) as (λ b. inserted (y ∷ ys) (cond b 0 (suc (spot before x ys))) x ≡ cond b (x ∷ y ∷ ys) (y ∷ insert before x ys))
    [ true ↦ refl | false ↦ ap (λ l. y ∷ l) (insert_is before x ys) ]

-- an item is put where those from there to `held` have moved up by one
put_at : {X : Type 0} (xs ys : List X) (at held : ℕ) (x : X) → at ≤ held → held < length xs → length ys ≡ length xs → CopiedTo xs ys at (at + 1) (held - at)
    → SameBelow xs ys (at + 1) → SameFrom xs ys (at + 1 + (held - at)) → set ys at x ≡ inserted (take held xs) at x ++ drop (held + 1) xs
put_at xs ys at held x a b e moved stayed behind =
    same_lists _ _ (search (rules, places))
    (λ k d h. let len : k < length xs = omega (arith, length-set ys at x) in ⊎_elim
    (λ (p : k ≡ at). search (rules, places))
    (⊎_elim
    (λ (p : k < at). let l = stayed k d (omega arith) in search (rules, places))
    (λ (p : at < k). ⊎_elim
    (λ (q : k < held + 1).
    let long = length-take-le held xs (omega arith) in
    let whole = length-insert (take held xs) at x (omega arith) in
    let back : k ≡ k - 1 + 1 = omega arith in
    let from : at + (k - (at + 1)) ≡ k - 1 = omega arith in
    get_or-set_other ys at k x d (omega arith) ∙ moved k d (omega arith) (omega arith) ∙ ap (λ n. get_or xs n d) from ∙ sym (
    get_or_append_left (inserted (take held xs) at x) (drop (held + 1) xs) d k (omega arith)
    ∙ ap (λ n. get_or (inserted (take held xs) at x) n d) back
    ∙ get_or-insert_above (take held xs) at x d (k - 1) (omega arith) (omega arith)
    ∙ get_or-take held xs (k - 1) d (omega arith)))
    (λ (q : held + 1 ≤ k). let l = behind k d (omega arith) in search (rules, places))
    (cases_lt k (held + 1))))
    (cases_order k at))

-- and is then inserted, if that is its spot
pub put_is : {X : Type 0} (before : X → X → Bool) (x : X) (held : ℕ) (xs ys : List X) (at : ℕ) → at ≡ spot before x (take held xs) → at ≤ held → held < length xs
    → length ys ≡ length xs → CopiedTo xs ys at (at + 1) (held - at) → SameBelow xs ys (at + 1) → SameFrom xs ys (at + 1 + (held - at))
    → set ys at x ≡ insert before x (take held xs) ++ drop (held + 1) xs
put_is before x held xs ys at e a b len moved stayed behind =
    put_at xs ys at held x a b len moved stayed behind
    ∙ ap (λ n. inserted (take held xs) n x ++ drop (held + 1) xs) e
    ∙ ap (λ l. l ++ drop (held + 1) xs) (insert_is before x (take held xs))

-- what putting says where there was room, and where there was none
pub puts_ok : {X : Type 0} (before : X → X → Bool) (x : X) (held : ℕ) (xs ys : List X) (r : Result Unit Full) → Puts before x held xs r ys → is_ok r ≡ true
    → (held < length xs) × (ys ≡ insert before x (take held xs) ++ drop (held + 1) xs)
puts_ok before x held xs ys (Ok u) p e = p
puts_ok before x held xs ys (Err f) p e = absurd (false≢true e)

pub puts_err : {X : Type 0} (before : X → X → Bool) (x : X) (held : ℕ) (xs ys : List X) (r : Result Unit Full) → Puts before x held xs r ys → is_ok r ≡ false
    → (length xs ≤ held) × (ys ≡ xs)
puts_err before x held xs ys (Ok u) p e = absurd (true≢false e)
puts_err before x held xs ys (Err f) p e = p
