-- Lines of a listing, and their order. Assumes nothing.
use Rattle.std.specs.Prelude.{ℕ, Bool, ◌&&◌, ◌||◌, ◌==◌, nat_lt}
use Rattle.stages.specs.declared.line.Line.{Line}

-- the line of a place and a total
abbrev pub line_of : ℕ → ℕ → Line
line_of p t = record { place = p; total = t }

-- a line that is cleared
abbrev pub blank : Line
blank = line_of 0 0

-- the first stands before the second: a smaller total, or an equal total and a smaller place
abbrev pub earlier : Line → Line → Bool
earlier x y = nat_lt x.total y.total || (x.total == y.total && nat_lt x.place y.place)
