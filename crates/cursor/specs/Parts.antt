-- Parts of a sheet. Assumes nothing.
use Rattle.std.specs.Prelude.{◌≡◌, ℕ, ◌+◌, List, length, take, drop}
use Rattle.std.specs.Borrow.{Bor}
use Rattle.cursor.specs.declared.part.Part.{Part}

-- the bytes of a part
abbrev pub cut : Part → List ℕ → List ℕ
cut p xs = take p.len (drop p.start xs)

-- a reference to a part of what another refers to: its bytes, their number, and that they lie in the same memory from the part's start on
pub record CutOut (p : Part) (sheet part : Bor (List ℕ)) : Type 0 where
  pub bytes : part.now ≡ cut p sheet.now
  pub long : length part.now ≡ p.len
  pub memory : part.ref_ptr.0 ≡ sheet.ref_ptr.0
  pub place : part.ref_ptr.1 ≡ sheet.ref_ptr.1 + p.start
