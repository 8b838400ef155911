-- Started blocks. Assumes nothing.
use Rattle.std.specs.Prelude.{ℕ, ◌+◌, ◌-◌, ◌*◌, ◌/◌, ◌≤◌, Bool, List, map, is_some, Some, None, Option, slice_index_or}
use Rattle.prices.specs.OverSeats.{over_seats, entry_cost}
use Rattle.prices.specs.declared.block.Block.{Block}
use Rattle.prices.specs.declared.blocks.BlockTable.{BlockTable}

-- how many parts a block may have
abbrev pub BlockRange : ℕ → Type 0
BlockRange parts = (1000 ≤ parts) × (parts ≤ 1000000000)

-- a block by its numbers
pub record BlockData : Type 0 where
  pub parts : ℕ
  pub price : ℕ

abbrev pub block_of : Option Block → Option BlockData
block_of None = None
block_of (Some b) = Some record { parts = b.parts; price = b.price.price }

abbrev pub blocks_data : BlockTable → List (Option BlockData)
blocks_data t = map block_of t.entries

-- a seat has a block
abbrev pub has_block : List (Option BlockData) → ℕ → Bool
has_block bs k = is_some (slice_index_or bs k None)

-- how many blocks of b parts are started by u parts
abbrev pub started : ℕ → ℕ → ℕ
started u b = (u + (b - 1)) / b

-- what the blocks cost that so many parts start at a seat: the block price times 1,000 is a total
abbrev pub block_cost : Option BlockData → ℕ → ℕ
block_cost b u = entry_cost (λ d v. started v d.parts * (d.price * 1000)) b u

-- every started block of every seat
abbrev pub blocks_cost : List (Option BlockData) → List ℕ → ℕ
blocks_cost bs us = over_seats block_cost bs us
