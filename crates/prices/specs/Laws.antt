-- What a seat costs at most, whatever its use. Assumes nothing.
use Rattle.std.proofs.Common.{ℕ, ◌+◌, ◌-◌, ◌*◌, ◌<◌, ◌≤◌, div-lt_iff_lt-mul, add-mul, mul-le-mul, mul-le-mul_left, one-mul, arith}
use Rattle.prices.specs.declared.amounts.UnitPrice.{UnitPrice}
use Rattle.prices.specs.declared.block.Block.{Block}
use Rattle.prices.specs.Blocks.{started}

pub price_within : (p : UnitPrice) (parts : ℕ) → parts < 4294967296 → parts * p.price ≤ 5000000000000000
price_within p parts few =
    let top : parts ≤ 4294967296 = omega arith in
    let most : parts * p.price ≤ 4294967296 * 1000000 = mul-le-mul top p.low in
    omega arith

-- no more blocks are started than there are thousands of parts, and one
started_le : (u b m : ℕ) → 1000 ≤ b → u ≤ m * 1000 → started u b ≤ m
started_le u b m h l =
    let p : m * 1000 ≤ m * b = mul-le-mul_left m h in
    let below : u + (b - 1) < (m + 1) * b = rw (add-mul, one-mul) (omega arith) in
    let pos : 0 < b = omega arith in
    let q : started u b < m + 1 = (div-lt_iff_lt-mul pos).1 below in
    omega arith

pub block_within : (b : Block) (parts : ℕ) → parts < 4294967296 → started parts b.parts * (b.price.price * 1000) ≤ 5000000000000000
block_within b parts few =
    let s : started parts b.parts ≤ 5000000 = started_le parts b.parts 5000000 b.least (omega arith) in
    let low = b.price.low in
    let p : b.price.price * 1000 ≤ 1000000000 = omega arith in
    mul-le-mul s p
