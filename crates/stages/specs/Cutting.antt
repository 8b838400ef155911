-- Where a cut falls among lines, and what memory holds after it. Assumes nothing.
use Rattle.std.specs.Prelude.{◌≡◌, ℕ, zero, suc, ◌+◌, ◌-◌, ◌<◌, ◌≤◌, cond, ◌⊎◌, List, [], ◌∷◌, ◌++◌, length, take, replicate, ◌==◌}
use Rattle.stages.specs.declared.line.Line.{Line}
use Rattle.stages.specs.Lines.{blank}

-- how many of these lines begin a total that differs from the line before; the line before them all has the total t
abbrev pub changes : ℕ → List Line → ℕ
changes t [] = 0
changes t (y ∷ ys) = cond (y.total == t) (changes t ys) (suc (changes y.total ys))

-- how many different neighbouring totals these lines hold
abbrev pub neighbouring : List Line → ℕ
neighbouring [] = 0
neighbouring (y ∷ ys) = suc (changes y.total ys)

-- how many of these lines come before one different neighbouring total too many begins:
-- `more` may still begin, and the line before them all has the total t
abbrev pub follow : ℕ → ℕ → List Line → ℕ
follow more t [] = 0
follow zero t (y ∷ ys) = cond (y.total == t) (suc (follow zero t ys)) 0
follow (suc more) t (y ∷ ys) = cond (y.total == t) (suc (follow (suc more) t ys)) (suc (follow more y.total ys))

-- how many of these lines a cut keeps where so many different neighbouring totals are wanted
abbrev pub keeps : ℕ → List Line → ℕ
keeps zero ys = 0
keeps (suc more) [] = 0
keeps (suc more) (y ∷ ys) = suc (follow more y.total ys)

-- a cut of these lines falls behind the first k
pub record Falls (wanted : ℕ) (lines : List Line) (k : ℕ) : Type 0 where
  -- the lines kept are a leading part
  pub leading : k ≤ length lines
  -- they hold at most as many different neighbouring totals as wanted
  pub within : neighbouring (take k lines) ≤ wanted
  -- nothing is left behind, or the next line begins one too many
  pub full : (k ≡ length lines) ⊎ ((k < length lines) × (neighbouring (take (k + 1) lines) ≡ wanted + 1))

-- a memory of which the first k lines are kept, and all behind them is place 0, total 0
abbrev pub cut_to : ℕ → List Line → List Line
cut_to k xs = take k xs ++ replicate (length xs - k) blank
