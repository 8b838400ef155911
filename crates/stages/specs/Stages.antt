-- What each stage of a listing answers, and what it leaves in the line memory. Assumes nothing.
use Rattle.std.specs.Prelude.{◌≡◌, ℕ, ◌+◌, ◌<◌, ◌≤◌, ◌⊎◌, List, ◌++◌, length, take, drop, Result, MatchResult, slice_index_or}
use Rattle.refusal.specs.Rows.{bare}
use Rattle.ordered.specs.Inserting.{insert}
use Rattle.stages.specs.declared.line.Line.{Line}
use Rattle.stages.specs.declared.gathering.Gathering.{Gathering}
use Rattle.stages.specs.declared.cut.Cut.{Cut}
use Rattle.stages.specs.declared.refusing.Refusal.{Refusal}
use Rattle.stages.specs.Lines.{blank, earlier}
use Rattle.stages.specs.Cutting.{keeps, Falls, cut_to}
use Rattle.stages.specs.Refusals.{row_of}

-- a gathering of the list length w that holds so many lines
abbrev pub gathering : ℕ → ℕ → Gathering
gathering w h = record { wanted = w; held = h }

-- beginning with the list length w
abbrev pub Begins : ℕ → Result Gathering Refusal → Type 0
Begins w r =
    MatchResult r
    (λ g. (1 ≤ w) × (w ≤ 20) × (g ≡ gathering w 0))
    (λ e. (row_of e ≡ bare 20) × ((w ≡ 0) ⊎ (20 < w)))

-- the memory after a line was put among the first h
abbrev pub put_among : ℕ → Line → List Line → List Line
put_among h x xs = insert earlier x (take h xs) ++ drop (h + 1) xs

-- putting the line x into the memory xs leaves ys:
-- with room for one line more it stands in its order among those held; else all stays, and the stage comes back
abbrev pub PutsLine : Gathering → Line → List Line → Result Gathering (Refusal × Gathering) → List Line → Type 0
PutsLine g x xs r ys =
    MatchResult r
    (λ h. (g.held < length xs) × (h ≡ gathering g.wanted (g.held + 1)) × (ys ≡ put_among g.held x xs))
    (λ e. (length xs ≤ g.held) × (row_of e.0 ≡ bare 24) × (e.1 ≡ g) × (ys ≡ xs))

-- the lines that a stage holds
abbrev pub held_lines : Gathering → List Line → List Line
held_lines g xs = take g.held xs

-- a cut is made of the memory xs, which then holds ys
pub record CutMade (g : Gathering) (xs : List Line) (c : Cut) (ys : List Line) : Type 0 where
  pub room : g.held ≤ length xs
  pub shown_is : c.shown ≡ keeps g.wanted (held_lines g xs)
  pub falls : Falls g.wanted (held_lines g xs) c.shown
  pub cleared : ys ≡ cut_to c.shown xs

-- the cut of the memory xs leaves ys: it is made; or the memory is shorter than the held lines, all stays, and the stage comes back
abbrev pub Cuts : Gathering → List Line → Result Cut (Refusal × Gathering) → List Line → Type 0
Cuts g xs r ys =
    MatchResult r
    (λ c. CutMade g xs c ys)
    (λ e. (length xs < g.held) × (row_of e.0 ≡ bare 24) × (e.1 ≡ g) × (ys ≡ xs))

-- reading the line at a place of the list, counted from 0
abbrev pub Reads : Cut → List Line → ℕ → Result Line Refusal → Type 0
Reads c xs at r =
    MatchResult r
    (λ l. (c.shown ≤ length xs) × (at < c.shown) × (l ≡ slice_index_or xs at blank))
    (λ e. ((row_of e ≡ bare 24) × (length xs < c.shown)) ⊎ ((row_of e ≡ bare 26) × (c.shown ≤ length xs) × (c.shown ≤ at)))
