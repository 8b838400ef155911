-- The totals and places of lines, and how many numbers differ. Assumes nothing.
use Rattle.std.specs.Prelude.{ℕ, suc, Bool, false, cond, ◌||◌, List, [], ◌∷◌, map, ◌==◌}
use Rattle.stages.specs.declared.line.Line.{Line}

-- the totals on these lines
abbrev pub totals : List Line → List ℕ
totals = map (λ l. l.total)

-- the places on these lines
abbrev pub places : List Line → List ℕ
places = map (λ l. l.place)

-- whether a number is in the list
abbrev pub occurs : ℕ → List ℕ → Bool
occurs t [] = false
occurs t (u ∷ us) = t == u || occurs t us

-- how many different numbers are in the list
abbrev pub different : List ℕ → ℕ
different [] = 0
different (t ∷ ts) = cond (occurs t ts) (different ts) (suc (different ts))
