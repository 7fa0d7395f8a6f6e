-- Where a walk over rows and columns stands. The steps of the code, not needed to read what the calls promise.
use Rattle.std.specs.Prelude.{◌≡◌, ℕ, ◌+◌, ◌-◌, ◌≤◌, ◌++◌, Bool, List, length, filter, take, drop}
use Rattle.std.specs.List.{range_with_len}
use Rattle.cpl_grid.specs.declared.blocks.Block.{Block}
use Rattle.cpl_route.specs.Places.{cell_in, in_rows, needed_in_rows}

-- places from the start of a block on, up to one, are passed
pub record IsPassing (block : Block) (place : ℕ) : Type 0 where
  pub started : block.start ≤ place
  pub within : place ≤ block.start + block.length

-- the needed cells in the columns of a row that are passed
unfoldable pub needed_so_far : (ℕ → Bool) → ℕ → Block → ℕ → ℕ → List ℕ
needed_so_far test nx columns row column =
    filter test (range_with_len (cell_in nx row columns.start) (column - columns.start))

-- a walk along a row appended the needed cells of the columns that it passed
pub record IsAlong (test : ℕ → Bool) (nx : ℕ) (columns : Block) (row column : ℕ) (before now : List ℕ) : Type 0 where
  pub passing : IsPassing columns column
  pub cells : now ≡ before ++ needed_so_far test nx columns row column

-- a walk along a row counted them
pub record HasCounted (test : ℕ → Bool) (nx : ℕ) (columns : Block) (row column total : ℕ) : Type 0 where
  pub passing : IsPassing columns column
  pub count : total ≡ length (needed_so_far test nx columns row column)

-- a walk down the rows appended the needed cells of the rows that it passed
pub record IsDown (test : ℕ → Bool) (nx : ℕ) (columns rows : Block) (row : ℕ) (before now : List ℕ) : Type 0 where
  pub passing : IsPassing rows row
  pub cells : now ≡ before ++ needed_in_rows test nx columns rows.start (row - rows.start)

-- a walk down the rows counted them
pub record HasCountedRows (test : ℕ → Bool) (nx : ℕ) (columns rows : Block) (row total : ℕ) : Type 0 where
  pub passing : IsPassing rows row
  pub count : total ≡ length (needed_in_rows test nx columns rows.start (row - rows.start))

-- of the cells behind a place, in one row and in further rows, so many are copied
pub record HasCopied (nx from more copied : ℕ) (before now : List ℕ) : Type 0 where
  pub cells : now ≡ take from before ++ take (length before - from + copied) (in_rows nx (drop from before) (more + 1))
