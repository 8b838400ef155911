-- A run of bytes is read as printable ones up to the first that is not. Assumes nothing.
use Rattle.std.proofs.Common.{◌≡◌, ℕ, zero, suc, ◌+◌, ◌-◌, ◌<◌, ◌≤◌, leb, cond, Bool, true, false, List, take, drop, get_or, length, Some, None, Option, refl, inl, inr, arith}
use Rattle.std.specs.List.{position, position_from}
use Rattle.std.proofs.lemmas.Iterator.Adapters.{position_from-zero}
use Rattle.std.proofs.lemmas.List.{drop_more, drop_all, take_all, length-drop}
use Rattle.std.proofs.lemmas.Bool.{cases_lt}
use Rattle.std.proofs.lemmas.Bool.Decides.{nat_tests}
use Rattle.cursor.specs.declared.fault.Fault.{Fault}
use Rattle.cursor.specs.declared.fault.Fault.TheVariants.{EndsEarly, AgainstRule}
use Rattle.cursor.specs.declared.part.Part.{Part}
use Rattle.cursor.specs.Readings.{Got, value, fault, onward, repeated, ranged, run, printable, unprinted, text}

-- what is read where the first of them stands so many bytes behind a place, or there is none
abbrev scanned : List ℕ → ℕ → ℕ → Option ℕ → Got Fault (Unit {0})
scanned xs from next (Some i) = fault (AgainstRule (from + i))
scanned xs from next None = cond (leb next (length xs)) (value tt next) (fault (EndsEarly (length xs)))

-- one byte
printed_one : (xs : List ℕ) (at : ℕ) → at < length xs → printable tt xs at ≡ cond (unprinted (get_or xs at 0)) (fault (AgainstRule at)) (value tt (at + 1))
printed_one xs at h = grind (arith, nat_tests)

printed_none : (xs : List ℕ) (at : ℕ) → length xs ≤ at → printable tt xs at ≡ fault (EndsEarly (length xs))
printed_none xs at h = grind (arith, nat_tests)

-- one byte, and those behind it
printed_next : (xs : List ℕ) (from next i n : ℕ) (b : Bool) (o : Option ℕ) → repeated n printable tt xs (from + i + 1) ≡ scanned xs from next o →
    onward (cond b (fault (AgainstRule (from + i))) (value tt (from + i + 1))) (λ s k. repeated n printable s xs k) ≡ scanned xs from next (cond b (Some i) o)
printed_next xs from next i n true o h = refl
printed_next xs from next i n false o h = h

printed_from : (xs : List ℕ) (from n i : ℕ) → from + i ≤ length xs → repeated n printable tt xs (from + i) ≡ scanned xs from (from + i + n) (position_from unprinted i (take n (drop (from + i) xs)))
printed_from xs from zero i h = grind (arith, nat_tests)
printed_from xs from (suc n) i h =
    elim (cases_lt (from + i) (length xs)) [
      | inl l ↦
          let e : from + (i + 1) ≡ from + i + 1 = omega arith in
          let f : from + i + 1 + n ≡ from + i + suc n = omega arith in
          let r = rw (e, f) at (printed_from xs from n (i + 1) (omega arith)) in
          rw (drop_more xs (from + i) 0 l, printed_one xs (from + i) l) (printed_next xs from (from + i + suc n) i n (unprinted (get_or xs (from + i) 0)) (position_from unprinted (i + 1) (take n (drop (from + i + 1) xs))) r)
      | inr l ↦ let m : length xs < from + i + suc n = omega arith in rw (drop_all (from + i) xs l, printed_none xs (from + i) l) (grind (arith, nat_tests))
    ]

printed : (xs : List ℕ) (at n : ℕ) → at ≤ length xs → repeated n printable tt xs at ≡ scanned xs at (at + n) (position unprinted (take n (drop at xs)))
printed xs at n h =
    let z : at + 0 ≤ length xs = omega arith in
    let e : at + 0 ≡ at = omega arith in
    rw position_from-zero (rw e at (printed_from xs at n 0 z))

abbrev pub part : ℕ → ℕ → Part
part at n = record { start = at; len = n }

-- a text behind its count: a run, if no byte of it is bad
abbrev pub told : List ℕ → ℕ → ℕ → Option ℕ → Got Fault Part
told xs at n (Some i) = fault (AgainstRule (at + i))
told xs at n None = run n xs at

handed_if : (b : Bool) (k : ℕ) (p : Part) (f : Fault) (u : Unit {0}) → onward (cond b (value u k) (fault f)) (λ _ k. value p k) ≡ cond b (value p k) (fault f)
handed_if true k p f u = refl
handed_if false k p f u = refl

handed : (xs : List ℕ) (at n : ℕ) (o : Option ℕ) → onward (scanned xs at (at + n) o) (λ _ k. value (part at n) k) ≡ told xs at n o
handed xs at n (Some i) = refl
handed xs at n None = handed_if (leb (at + n) (length xs)) (at + n) (part at n) (EndsEarly (length xs)) tt

pub printed_told : (xs : List ℕ) (at n : ℕ) → at ≤ length xs → onward (repeated n printable tt xs at) (λ _ k. value (part at n) k) ≡ told xs at n (position unprinted (take n (drop at xs)))
printed_told xs at n h = rw (printed xs at n h) (handed xs at n (position unprinted (take n (drop at xs))))

-- the bytes behind the count are looked through up to the sheet's end
pub text_told : (most : ℕ) (xs : List ℕ) (at n m : ℕ) (o : Option ℕ) → ranged 1 1 most xs at ≡ value n m → m ≤ length xs → o ≡ position unprinted (take n (take (length xs - m) (drop m xs))) → text most xs at ≡ told xs m n o
text_told most xs at n m o a h u =
    let l : length (drop m xs) ≤ length xs - m = simp length-drop (omega arith) in
    let e : o ≡ position unprinted (take n (drop m xs)) = rw (take_all (length xs - m) (drop m xs) l) at u in
    rw (a, e) (printed_told xs m n h)
