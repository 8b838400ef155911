-- The number in bytes behind others. Assumes nothing.
use Rattle.std.proofs.Common.{◌≡◌, ℕ, zero, suc, ◌+◌, ◌-◌, ◌≤◌, List, take, drop, length, refl, arith}
use Rattle.std.proofs.lemmas.List.{get_or-drop, take_all, length-drop}
use Rattle.std.proofs.lemmas.Bool.Decides.{nat_tests}
use Rattle.cursor.specs.Readings.{value, field, big_endian}

big_endian-drop : (w : ℕ) (xs : List ℕ) (at k : ℕ) → big_endian w (drop at xs) k ≡ big_endian w xs (at + k)
big_endian-drop zero xs at k = refl
big_endian-drop (suc w) xs at k =
    let e : at + (k + w) ≡ at + k + w = omega arith in
    rw (big_endian-drop w xs at k, get_or-drop at xs (k + w) 0, e) refl

-- a number read from what stands from a place on
pub field_behind : (w : ℕ) (xs : List ℕ) (at v : ℕ) → at ≤ length xs → w ≤ length (take (length xs - at) (drop at xs)) → v ≡ big_endian w (take (length xs - at) (drop at xs)) 0 → field w xs at ≡ value v (at + w)
field_behind w xs at v h fits is =
    let l : length (drop at xs) ≤ length xs - at = simp length-drop (omega arith) in
    let t = take_all (length xs - at) (drop at xs) l in
    let z : at + 0 ≡ at = omega arith in
    let b : v ≡ big_endian w xs at = rw (t, big_endian-drop w xs at 0, z) at is in
    let n : w ≤ length xs - at = simp (t, length-drop) at fits in
    let m : at + w ≤ length xs = omega arith in
    rw b (grind (arith, nat_tests))
