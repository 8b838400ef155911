-- Lists in order. Assumes nothing.
use Rattle.std.specs.Prelude.{Bool, true, ◌&&◌, List, [], ◌∷◌}

-- whether each item passes a test
abbrev pub all : {X : Type 0} → (X → Bool) → List X → Bool
all p [] = true
all p (x ∷ xs) = p x && all p xs

-- whether each item stands before all that follow it
abbrev pub ascending : {X : Type 0} → (X → X → Bool) → List X → Bool
ascending before [] = true
ascending before (x ∷ xs) = all (before x) xs && ascending before xs
