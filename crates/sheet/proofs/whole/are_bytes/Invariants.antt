use Rattle.std.proofs.Common.{ℕ, ◌<◌, get_or}
use Rattle.sheet.proofs.whole.are_bytes.Given as goal

abbrev pub invariant-loop-byte : goal.invariant-loop-byte
invariant-loop-byte l = (k : ℕ) → k < l.byte-index → get_or l.sheet k 0 < 256
