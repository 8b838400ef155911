-- What a call of a cursor reads, and where it leaves the cursor. Assumes nothing.
use Rattle.std.specs.Prelude.{◌≡◌, ℕ, ◌+◌, List, Ok, Err, Result}
use Rattle.std.specs.Result.{result_map_both}
use Rattle.std.specs.Borrow.{Bor}
use Rattle.cursor.specs.declared.cursor.Cursor.{Cursor}
use Rattle.cursor.specs.declared.part.Part.{Part}
use Rattle.cursor.specs.Parts.{CutOut}
use Rattle.cursor.specs.Readings.{Got, Reading, value, fault}

-- what a reading gives from where a cursor stands
abbrev pub from : {E V : Type 0} → Cursor → Reading E V → Got E V
from s p = p s.bytes.now s.at

-- a call gives what a reading says and leaves the cursor behind it, over the same bytes; a fault leaves the cursor as it was
abbrev pub Took : {E V : Type 0} → Reading E V → Cursor → Result V E → Cursor → Type 0
Took p s (Ok v) t = (from s p ≡ value v t.at) × (t.bytes ≡ s.bytes)
Took p s (Err e) t = (from s p ≡ fault e) × (t ≡ s)

-- the same, where the value is seen as another
abbrev pub TookAs : {E V W : Type 0} → (W → V) → Reading E V → Cursor → Result W E → Cursor → Type 0
TookAs see p s r t = Took p s (result_map_both see (λ e. e) r) t

-- the same for a part, which is handed out as that part of the sheet's own bytes and ends where the cursor is left
pub record HandedOut {E : Type 0} (p : Reading E Part) (s : Cursor) (r : Bor (List ℕ)) (t : Cursor) : Type 0 where
  pub part : Part
  pub is : from s p ≡ value part t.at
  pub cut_out : CutOut part s.bytes r
  pub ends : t.at ≡ part.start + part.len
  pub same : t.bytes ≡ s.bytes

abbrev pub TookPart : {E : Type 0} → Reading E Part → Cursor → Result (Bor (List ℕ)) E → Cursor → Type 0
TookPart p s (Ok r) t = HandedOut p s r t
TookPart p s (Err e) t = (from s p ≡ fault e) × (t ≡ s)
