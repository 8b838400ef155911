-- Scales. A total is in ten-millionths of the currency, a fixed sum in hundredths, a unit price in ten-thousandths,
-- and a part is a thousandth of a unit: so parts times unit price is a total. Assumes nothing.
use Rattle.std.specs.Prelude.{ℕ, ◌*◌}

-- a fixed sum as a total
abbrev pub fixed_part : ℕ → ℕ
fixed_part sum = sum * 100000
