-- Readings of a list of bytes from a place on. Assumes nothing.
use Rattle.std.specs.Prelude.{◌≡◌, ℕ, zero, suc, ◌+◌, ◌*◌, Bool, not, cond, ◌&&◌, List, length, Ok, Err, Result, nat_le, nat_lt, slice_index}
use Rattle.cursor.specs.declared.fault.Fault.{Fault}
use Rattle.cursor.specs.declared.fault.Fault.TheVariants.{EndsEarly, AgainstRule, BytesLeft}
use Rattle.cursor.specs.declared.part.Part.{Part}

-- what reading gives: a value and the place behind it, or the first fault
pub data Got (E V : Type 0) : Type 0 where
  value : V → ℕ → Got E V
  fault : E → Got E V

-- a reading of a value, from a place on
abbrev pub Reading : Type 0 → Type 0 → Type 0
Reading E V = List ℕ → ℕ → Got E V

-- go on with a value and the place behind it; a fault stays
abbrev pub onward : {E V W : Type 0} → Got E V → (V → ℕ → Got E W) → Got E W
onward (value v n) k = k v n
onward (fault e) k = fault e

-- one reading, and then another from where the first ended
abbrev pub then : {E V W : Type 0} → Reading E V → (V → Reading E W) → Reading E W
then p k xs at = onward (p xs at) (λ v n. k v xs n)

-- a value that takes no bytes
abbrev pub done : {E V : Type 0} → V → Reading E V
done v xs at = value v at

-- n steps, each from where the one before ended, with what has been gathered so far
abbrev pub repeated : {E S : Type 0} → ℕ → (S → Reading E S) → S → Reading E S
repeated zero step s = done s
repeated (suc n) step s = then (step s) (repeated n step)

-- the faults of a reading seen as those of a larger kind
abbrev pub as_got : {E F V : Type 0} → (E → F) → Got E V → Got F V
as_got f (value v n) = value v n
as_got f (fault e) = fault (f e)

abbrev pub with_faults : {E F V : Type 0} → (E → F) → Reading E V → Reading F V
with_faults f p xs at = as_got f (p xs at)

-- the number in w bytes from a place on, the highest byte first
abbrev pub big_endian : ℕ → List ℕ → ℕ → ℕ
big_endian zero xs at = 0
big_endian (suc w) xs at = 256 * big_endian w xs at + slice_index xs (at + w)

-- a number of w bytes
abbrev pub field : ℕ → Reading Fault ℕ
field w xs at = cond (nat_le (at + w) (length xs)) (value (big_endian w xs at) (at + w)) (fault (EndsEarly (length xs)))

-- a number of w bytes, from low to high
abbrev pub ranged : ℕ → ℕ → ℕ → Reading Fault ℕ
ranged w low high xs at =
    onward (field w xs at) (λ v n. cond (nat_le low v && nat_le v high) (value v n) (fault (AgainstRule at)))

-- n bytes, whatever they hold
abbrev pub run : ℕ → Reading Fault Part
run n xs at = cond (nat_le (at + n) (length xs)) (value (record { start = at; len = n }) (at + n)) (fault (EndsEarly (length xs)))

-- one byte from 32 to 126
abbrev pub printable : Unit {0} → Reading Fault (Unit {0})
printable u = then (ranged 1 32 126) (λ _. done tt)

-- whether a byte is none of those
abbrev pub unprinted : ℕ → Bool
unprinted b = not (nat_le 32 b && nat_le b 126)

-- a count from 1 to most, and so many bytes from 32 to 126
abbrev pub text : ℕ → Reading Fault Part
text most =
    then (ranged 1 1 most) (λ n xs at.
    then (repeated n printable tt) (λ _. done (record { start = at; len = n })) xs at)

-- nothing stands behind the place
abbrev pub ended : Reading Fault (Unit {0})
ended xs at = cond (nat_lt at (length xs)) (fault (BytesLeft at)) (value tt at)

-- a call that moves nothing gives what a reading says
abbrev pub Answers : {E V : Type 0} → Result V E → Got E V → Type 0
Answers (Ok v) g = (n : ℕ) × (g ≡ value v n)
Answers (Err e) g = g ≡ fault e
