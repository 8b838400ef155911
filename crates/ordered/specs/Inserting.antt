-- Where an item goes among items in order, and what a memory then holds. Assumes nothing.
use Rattle.std.specs.Prelude.{◌≡◌, ℕ, suc, ◌+◌, ◌<◌, ◌≤◌, Bool, cond, List, [], ◌∷◌, ◌++◌, length, take, drop, Result, MatchResult}
use Rattle.ordered.specs.declared.Full.{Full}

-- an item among others: before the first that it stands before, else last
abbrev pub insert : {X : Type 0} → (X → X → Bool) → X → List X → List X
insert before x [] = x ∷ []
insert before x (y ∷ ys) = cond (before x y) (x ∷ y ∷ ys) (y ∷ insert before x ys)

-- how many items stand in front of it then
abbrev pub spot : {X : Type 0} → (X → X → Bool) → X → List X → ℕ
spot before x [] = 0
spot before x (y ∷ ys) = cond (before x y) 0 (suc (spot before x ys))

-- putting an item among the first `held` of the memory xs leaves ys:
-- with room for it, it is inserted and all behind the held items stays; else nothing changes
abbrev pub Puts : {X : Type 0} → (X → X → Bool) → X → ℕ → List X → Result Unit Full → List X → Type 0
Puts before x held xs r ys =
    MatchResult r
    (λ _. (held < length xs) × (ys ≡ insert before x (take held xs) ++ drop (held + 1) xs))
    (λ _. (length xs ≤ held) × (ys ≡ xs))
