-- Floors of shares: how the floor of q * p / s moves as p grows. Assumes nothing.
use Rattle.std.proofs.Common.{◌≡◌, ℕ, ◌+◌, ◌-◌, ◌*◌, ◌/◌, ◌%◌, ◌<◌, ◌≤◌, ap, ◌∙◌, mul-le-mul_right, mod-lt, mul_comm, add-mul, mul-zero, mul-add, mul-div_cancel, arith}
use native.Mathlib.Nat.{div-add-mod, zero-div}
use Rattle.std.proofs.lemmas.Nat.{le-div, div_below, div-add-mod'}

-- floors go up
pub floor_up : (s x y : ℕ) → 0 < s → x / s ≤ (x + y) / s
floor_up s x y pos = le-div (x / s) (x + y) s pos (omega (arith, div-add-mod' x s))

-- with q at most s, a member never draws more than it uses
pub floor_near : (q s p u : ℕ) → 0 < s → q ≤ s → q * (p + u) / s ≤ q * p / s + u
floor_near q s p u pos le =
    let a : q * u ≤ s * u = mul-le-mul_right u le in
    let b = mul-add q p u in
    let m : q * p % s < s = mod-lt (q * p) pos in
    let d = div-add-mod' (q * p) s in
    let below : q * (p + u) < (q * p / s + u + 1) * s =
    omega (arith, add-mul (q * p / s + u) 1 s, add-mul (q * p / s) u s, mul_comm u s) in
    let lt : q * (p + u) / s < q * p / s + u + 1 = div_below (q * (p + u)) s (q * p / s + u + 1) pos below in
    omega arith

pub floor_more : (q s p u : ℕ) → 0 < s → q * p / s ≤ q * (p + u) / s
floor_more q s p u pos = rw mul-add (floor_up s (q * p) (q * u) pos)

-- a difference of floors and the exact difference are less than one apart
pub floor_between : (s x y : ℕ) → 0 < s → (s * ((x + y) / s - x / s) < y + s) × (y < s * ((x + y) / s - x / s) + s)
floor_between s x y pos =
    let a = x / s in
    let d = (x + y) / s - x / s in
    let up : x / s ≤ (x + y) / s = floor_up s x y pos in
    let parts : (x + y) / s ≡ x / s + d = omega arith in
    let e : s * ((x + y) / s) ≡ s * (x / s) + s * d = ap (λ n. s * n) parts ∙ mul-add s (x / s) d in
    let f = div-add-mod x s in
    let g = div-add-mod (x + y) s in
    let m : x % s < s = mod-lt x pos in
    let n : (x + y) % s < s = mod-lt (x + y) pos in
    (omega arith, omega arith)

pub floor_whole : (q s : ℕ) → 0 < s → q * s / s ≡ q
floor_whole q s pos = mul-div_cancel q pos

pub floor_none : (q s : ℕ) → q * 0 / s ≡ 0
floor_none q s = rw (mul-zero, zero-div)
