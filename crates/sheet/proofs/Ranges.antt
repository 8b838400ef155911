-- Bytes that are the code of no kind. Assumes nothing.
use Rattle.std.proofs.Common.{ℕ, ◌<◌, ◌≤◌, ◌≢◌, inl, inr, Err, refl, arith}
use Rattle.std.proofs.lemmas.Bool.Decides.{nat_tests}
use Rattle.heads.specs.Codes.{Decodes}
use Rattle.cursor.specs.declared.cursor.Cursor.{Cursor}
use Rattle.cursor.specs.declared.fault.Fault.{Fault}
use Rattle.cursor.specs.Cursors.{Took}
use Rattle.cursor.specs.Readings.{ranged}
use Rattle.sheet.specs.Readers.{TookKind}

-- a byte that is the code of no kind is out of the range of their codes
pub no_kind : {K : Type 0} (number : K → ℕ) (low high : ℕ) (s t : Cursor) (e : Fault) → ((code : ℕ) → ((kind : K) → number kind ≢ code) → low ≤ code → high < code) → TookKind (Decodes number) s (Err e) t → Took (ranged 1 low high) s (Err e) t
no_kind number low high s t e out (inl h, same) = (rw h refl, same)
no_kind number low high s t e out (inr (code, n, x, h, none, is), same) = let o = out code none.1 in (rw (is, h) (grind (arith, nat_tests)), same)
