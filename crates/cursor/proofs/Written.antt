-- What a reading takes is written where it began. Assumes nothing.
use Rattle.std.proofs.Common.{◌≡◌, ℕ, zero, suc, ◌+◌, ◌*◌, ◌/◌, ◌%◌, ◌<◌, ◌≤◌, ◌&&◌, ltb, leb, List, [], ◌∷◌, ◌++◌, length, get_or, take, drop, Some, None, Option, sym, refl, ap, ◌∙◌, add-zero, zero-add, arith}
use lib.Arith.{digits_div, digits_mod}
use Rattle.std.proofs.lemmas.List.{append_assoc, drop_more, take-append-drop, drop-drop, length-take-le, length-drop}
use Rattle.std.specs.List.{position, position_or_len}
use Rattle.std.proofs.lemmas.List.Sums.{fails_before_first}
use Rattle.std.proofs.lemmas.Bool.Decides.{nat_tests}
use Rattle.cursor.specs.declared.fault.Fault.TheVariants.{EndsEarly, AgainstRule, BytesLeft}
use Rattle.cursor.specs.declared.part.Part.{Part}
use Rattle.cursor.specs.Parts.{cut}
use Rattle.cursor.specs.Readings.{value, onward, repeated, big_endian, field, ranged, run, printable, unprinted, text, ended}
use Rattle.cursor.specs.Encodings.{Bytes, two, four, Text, counted}
use Rattle.cursor.proofs.Printed.{part, told, printed_told}
use Rattle.cursor.proofs.Whenever.{Whenever, whenever_then, whenever_cond, whenever_cond_not}

-- these bytes stand from one place to another
pub record Stands (ys xs : List ℕ) (at next : ℕ) : Type 0 where
  pub is : drop at xs ≡ ys ++ drop next xs

pub stands_behind : {ys zs xs : List ℕ} {at mid next : ℕ} → Stands ys xs at mid → Stands zs xs mid next → Stands (ys ++ zs) xs at next
stands_behind {ys} {zs} {xs} {at} {mid} {next} a b = record { is = a.is ∙ (ap (λ r. ys ++ r) b.is ∙ sym (append_assoc ys zs (drop next xs))) }

high_of : (a b : ℕ) → b < 256 → (256 * a + b) / 256 ≡ a
high_of a b h = let e : 256 * a + b ≡ a * 256 + b = omega arith in rw (e, digits_div a h) refl

low_of : (a b : ℕ) → b < 256 → (256 * a + b) % 256 ≡ b
low_of a b h = let e : 256 * a + b ≡ a * 256 + b = omega arith in rw (e, digits_mod a h) refl

two_of : (a b : ℕ) → b < 256 → two (256 * a + b) ≡ a ∷ (b ∷ [])
two_of a b h = rw (high_of a b h, low_of a b h) refl

four_of : (a b c d : ℕ) → b < 256 → c < 256 → d < 256 → four (256 * (256 * (256 * a + b) + c) + d) ≡ a ∷ (b ∷ (c ∷ (d ∷ [])))
four_of a b c d hb hc hd =
    let e : 256 * (256 * (256 * a + b) + c) + d ≡ (256 * a + b) * 65536 + (256 * c + d) = omega arith in
    let h : 256 * c + d < 65536 = omega arith in
    rw (e, digits_div (256 * a + b) h, digits_mod (256 * a + b) h, high_of a b hb, low_of a b hb, high_of c d hd, low_of c d hd) refl

-- the value of a field's first byte
first_of : (xs : List ℕ) (at : ℕ) → 256 * 0 + get_or xs (at + 0) 0 ≡ get_or xs at 0
first_of xs at = simp (zero-add, add-zero)

pub field_whenever : (w : ℕ) (xs : List ℕ) (at : ℕ) (P : ℕ → ℕ → Type 0) → (at + w ≤ length xs → P (big_endian w xs at) (at + w)) → Whenever (field w xs at) P
field_whenever w xs at P h =
    whenever_cond (leb (at + w) (length xs)) (big_endian w xs at) (at + w) (EndsEarly (length xs)) P (λ t. h (grind (arith, nat_tests)))

-- so many bytes from a place on
abbrev bytes_at : ℕ → List ℕ → ℕ → List ℕ
bytes_at zero xs at = []
bytes_at (suc w) xs at = bytes_at w xs at ++ get_or xs (at + w) 0 ∷ []

bytes_stand : (w : ℕ) (xs : List ℕ) (at : ℕ) → at + w ≤ length xs → Stands (bytes_at w xs at) xs at (at + w)
bytes_stand zero xs at h = record { is = ap (λ n. drop n xs) (sym (add-zero at)) }
bytes_stand (suc w) xs at h =
    let l : at + w < length xs = omega arith in
    let e : at + w + 1 ≡ at + suc w = omega arith in
    stands_behind (bytes_stand w xs at (omega arith)) (record { is = drop_more xs (at + w) 0 l ∙ ap (λ n. get_or xs (at + w) 0 ∷ drop n xs) e })

field_one : (xs : List ℕ) (at : ℕ) → at + 1 ≤ length xs → Stands (big_endian 1 xs at ∷ []) xs at (at + 1)
field_one xs at t = rw (zero-add (get_or xs (at + 0) 0)) (bytes_stand 1 xs at t)

pub one_written : (xs : List ℕ) (at : ℕ) → Whenever (field 1 xs at) (λ v n. Stands (v ∷ []) xs at n)
one_written xs at = field_whenever 1 xs at (λ v n. Stands (v ∷ []) xs at n) (field_one xs at)

pub two_written : (xs : List ℕ) (at : ℕ) → Bytes xs → Whenever (field 2 xs at) (λ v n. Stands (two v) xs at n)
two_written xs at fit =
    field_whenever 2 xs at (λ v n. Stands (two v) xs at n) (λ t.
    rw (zero-add (get_or xs (at + 0) 0), two_of (get_or xs (at + 0) 0) (get_or xs (at + 1) 0) (fit (at + 1))) (bytes_stand 2 xs at t))

pub four_written : (xs : List ℕ) (at : ℕ) → Bytes xs → Whenever (field 4 xs at) (λ v n. Stands (four v) xs at n)
four_written xs at fit =
    field_whenever 4 xs at (λ v n. Stands (four v) xs at n) (λ t.
    rw (zero-add (get_or xs (at + 0) 0), four_of (get_or xs (at + 0) 0) (get_or xs (at + 1) 0) (get_or xs (at + 2) 0) (get_or xs (at + 3) 0) (fit (at + 1)) (fit (at + 2)) (fit (at + 3))) (bytes_stand 4 xs at t))

-- what holds of a field holds of one within a range
pub ranged_whenever : (w low high : ℕ) (xs : List ℕ) (at : ℕ) (P : ℕ → ℕ → Type 0) → Whenever (field w xs at) P → Whenever (ranged w low high xs at) (λ v n. P v n × (low ≤ v) × (v ≤ high))
ranged_whenever w low high xs at P h =
    let Q : ℕ → ℕ → Type 0 = λ v n. P v n × (low ≤ v) × (v ≤ high) in
    whenever_then (field w xs at) _ P Q h (λ v n p.
    whenever_cond (leb low v && leb v high) v n (AgainstRule at) Q (λ t. (p, grind (arith, nat_tests), grind (arith, nat_tests))))

-- a part within the bytes
pub part_written : (p : Part) (xs : List ℕ) → p.start + p.len ≤ length xs → (length (cut p xs) ≡ p.len) × Stands (cut p xs) xs p.start (p.start + p.len)
part_written p xs h =
    let i : p.len ≤ length (drop p.start xs) = simp length-drop (omega arith) in
    (length-take-le p.len (drop p.start xs) i, record { is = sym (take-append-drop p.len (drop p.start xs)) ∙ ap (λ r. cut p xs ++ r) (drop-drop p.len p.start xs) })

pub run_written : (n : ℕ) (xs : List ℕ) (at : ℕ) → Whenever (run n xs at) (λ p next. (length (cut p xs) ≡ n) × Stands (cut p xs) xs at next)
run_written n xs at =
    whenever_cond (leb (at + n) (length xs)) (record { start = at; len = n }) (at + n) (EndsEarly (length xs)) _ (λ t.
    let h : at + n ≤ length xs = grind (arith, nat_tests) in
    part_written (record { start = at; len = n }) xs h)

pub two_bound : (xs : List ℕ) (at : ℕ) → Bytes xs → Whenever (field 2 xs at) (λ v n. v ≤ 65535)
two_bound xs at fit =
    field_whenever 2 xs at (λ v n. v ≤ 65535) (λ t.
    let a = fit (at + 0) in
    let b = fit (at + 1) in
    omega arith)

-- a text stands where it was read, within the bytes
pub record TextRead (most : ℕ) (xs : List ℕ) (at : ℕ) (p : Part) (next : ℕ) : Type 0 where
  pub stands : Stands (counted (cut p xs)) xs at next
  pub text : Text most (cut p xs)
  pub within : p.start + p.len ≤ length xs

-- where no byte is bad, each is from 32 to 126
none_bad : (xs : List ℕ) → position unprinted xs ≡ None → (k : ℕ) → k < length xs → (32 ≤ get_or xs k 0) × (get_or xs k 0 ≤ 126)
none_bad xs e k h =
    let l : length xs ≤ position_or_len unprinted xs = grind (arith, nat_tests) in
    let f = fails_before_first unprinted xs k 0 (omega arith) in
    (grind (arith, nat_tests), grind (arith, nat_tests))

-- a text behind its count
told_written : (most : ℕ) (xs : List ℕ) (at n m : ℕ) → Stands (n ∷ []) xs at m → 1 ≤ n → n ≤ most → (o : Option ℕ) → position unprinted (take n (drop m xs)) ≡ o → Whenever (told xs m n o) (TextRead most xs at)
told_written most xs at n m s some short (Some i) e = tt
told_written most xs at n m s some short None e =
    whenever_cond (leb (m + n) (length xs)) (part m n) (m + n) (EndsEarly (length xs)) (TextRead most xs at) (λ t.
    let h : m + n ≤ length xs = grind (arith, nat_tests) in
    let w = part_written (part m n) xs h in
    let b = none_bad (cut (part m n) xs) e in
    let j : Stands ((n ∷ []) ++ cut (part m n) xs) xs at (m + n) = stands_behind s w.1 in
    record {
      stands = rw w.0 j;
      text = record { some = omega arith; short = omega arith; low = λ k i. (b k i).0; high = λ k i. (b k i).1 };
      within = h;
    })

pub text_written : (most : ℕ) (xs : List ℕ) (at : ℕ) → Whenever (text most xs at) (TextRead most xs at)
text_written most xs at =
    let Next : ℕ → ℕ → Type 0 = λ v m. Stands (v ∷ []) xs at m × (m ≤ length xs) in
    let one : Whenever (ranged 1 1 most xs at) (λ v m. Next v m × (1 ≤ v) × (v ≤ most)) =
    ranged_whenever 1 1 most xs at Next (field_whenever 1 xs at Next (λ t. (field_one xs at t, t))) in
    whenever_then (ranged 1 1 most xs at) (λ n m. onward (repeated n printable tt xs m) (λ _ k. value (part m n) k)) (λ v m. Next v m × (1 ≤ v) × (v ≤ most)) (TextRead most xs at) one (λ n m a.
    rw (printed_told xs m n a.0.1) (told_written most xs at n m a.0.0 a.1 a.2 (position unprinted (take n (drop m xs))) refl))

pub ended_written : (xs : List ℕ) (at : ℕ) → Whenever (ended xs at) (λ _ n. (n ≡ at) × (length xs ≤ at))
ended_written xs at =
    whenever_cond_not (ltb at (length xs)) tt at (BytesLeft at) (λ _ n. (n ≡ at) × (length xs ≤ at)) (λ t. (refl, grind (arith, nat_tests)))
