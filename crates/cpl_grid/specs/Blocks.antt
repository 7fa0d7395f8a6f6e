-- Places in a row that are divided into blocks: the first blocks have one place more.
use Rattle.std.specs.Prelude.{ℕ, ◌+◌, ◌-◌, ◌/◌, ◌%◌, ◌<◌, ◌≤◌, List, [], ◌∷◌, map, nat_lt, if◌then◌else◌, sum_by}
use Rattle.std.specs.List.{range_with_len}
use Rattle.cpl_grid.specs.declared.blocks.Block.{Block}

-- the numbers below n
abbrev pub numbers_below : ℕ → List ℕ
numbers_below n = range_with_len 0 n

-- how many of n places are in block b of m
abbrev pub block_length : ℕ → ℕ → ℕ → ℕ
block_length n m b = if nat_lt b (n % m) then n / m + 1 else n / m

-- how many are in each of the m blocks
abbrev pub lengths : ℕ → ℕ → List ℕ
lengths n m = map (block_length n m) (numbers_below m)

-- how many of n places stand before block b of m
unfoldable pub block_start : ℕ → ℕ → ℕ → ℕ
block_start n m b = sum_by (block_length n m) (numbers_below b)

-- block b of m blocks of n places
abbrev pub block_at : ℕ → ℕ → ℕ → Block
block_at n m b = record { start = block_start n m b; length = block_length n m b }

-- a block has a place
pub record Holds (block : Block) (place : ℕ) : Type 0 where
  pub from_start : block.start ≤ place
  pub before_end : place < block.start + block.length

-- which of blocks of these lengths, side by side, holds a place, both counted from 0
abbrev pub holder : List ℕ → ℕ → ℕ
holder [] place = 0
holder (len ∷ more) place = if nat_lt place len then 0 else 1 + holder more (place - len)
