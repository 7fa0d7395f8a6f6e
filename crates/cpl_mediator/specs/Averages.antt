-- Kept whole fields: their sum and their average at each cell, and the running sums that stand for them.
use Rattle.std.specs.Prelude.{◌≡◌, ℕ, ℤ, pos, neg_ℤ, ◌*◌, ◌^◌, ◌<◌, ◌≤◌, ◌-◌, ◌+ℤ◌, ◌≤ℤ◌, List, [], ◌∷◌, length, map, replicate, slice_index_or, All}
use Rattle.std.specs.List.{range_with_len}
use Rattle.cpl_base.specs.Rounding.{near_of}

-- how many fields are kept, and their sum at each cell
pub record RunningSums : Type 0 where
  pub count : ℕ
  pub sums : List ℤ

-- of no field of so many cells
abbrev pub no_sums : ℕ → RunningSums
no_sums cells = record { count = 0; sums = replicate cells (pos 0) }

-- the number at a cell, counted from 0
abbrev pub number_at : List ℤ → ℕ → ℤ
number_at field cell = slice_index_or field cell (pos 0)

-- the sum of the kept fields at a cell
abbrev pub sum_at : List (List ℤ) → ℕ → ℤ
sum_at [] cell = pos 0
sum_at (field ∷ kept) cell = number_at field cell +ℤ sum_at kept cell

-- their average at a cell: the whole number nearest to the sum by their number, a half goes up
abbrev pub average_at : List (List ℤ) → ℕ → ℤ
average_at kept cell = near_of (sum_at kept cell) (pos (length kept))

-- the average of kept fields of so many cells
abbrev pub average_of : ℕ → List (List ℤ) → List ℤ
average_of cells kept = map (average_at kept) (range_with_len 0 cells)

-- sums with the numbers of one more field
abbrev pub sums_with : List ℤ → List ℤ → List ℤ
sums_with sums field =
    map (λ cell. number_at sums cell +ℤ number_at field cell) (range_with_len 0 (length sums))

-- the running sums are those of this list of kept fields, each with a number for each cell
pub record StandsFor (running : RunningSums) (kept : List (List ℤ)) : Type 0 where
  pub count : running.count ≡ length kept
  pub cells : All (λ field. length field ≡ length running.sums) kept
  pub sums : running.sums ≡ map (sum_at kept) (range_with_len 0 (length running.sums))

-- a sum of so many numbers of 64 bits
pub record IsSumOf (count : ℕ) (sum : ℤ) : Type 0 where
  pub low : neg_ℤ (pos (count * 2 ^ 63)) ≤ℤ sum
  pub high : sum ≤ℤ pos (count * (2 ^ 63 - 1))

-- what holds of all running sums
pub record IsRunning (running : RunningSums) : Type 0 where
  pub count : running.count ≤ 2 ^ 24
  pub cells : length running.sums < 2 ^ 32
  pub sums : All (IsSumOf running.count) running.sums
