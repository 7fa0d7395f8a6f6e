-- Cells by their rows and columns, counted from 0: stretches of a row, rows that are alike, and the cells in them that are needed. The
-- steps of the code, not needed to read what the calls promise.
use Rattle.std.specs.Prelude.{◌≡◌, ℕ, ◌+◌, ◌*◌, ◌<◌, ◌≤◌, ◌&&◌, Bool, not, nat_lt, List, map, filter}
use Rattle.std.specs.List.{flat_map, range_with_len}
use Rattle.cpl_grid.specs.declared.blocks.Block.{Block}
use Rattle.cpl_route.specs.declared.needs.Stretch.{Stretch}

-- the cell in a row and a column, of a grid of nx columns
abbrev pub cell_in : ℕ → ℕ → ℕ → ℕ
cell_in nx row column = 1 + row * nx + column

-- columns from one on that are needed, or not, alike
pub record IsStretch (test : ℕ → Bool) (nx row column limit : ℕ) (stretch : Stretch) : Type 0 where
  pub some : column < stretch.end
  pub within : stretch.end ≤ limit
  pub same : (i : ℕ) → column ≤ i → i < stretch.end → test (cell_in nx row i) ≡ stretch.needed

-- the rows from one on, up to an end, need the same columns
pub record AreRowsAlike (test : ℕ → Bool) (nx row end : ℕ) : Type 0 where
  pub same : (j i : ℕ) → row ≤ j → j < end → i < nx → test (cell_in nx j i) ≡ test (cell_in nx row i)

-- there is such a row, and the end isn't past a limit
pub record AreAlike (test : ℕ → Bool) (nx row limit end : ℕ) : Type 0 where
  pub some : row < end
  pub within : end ≤ limit
  pub alike : AreRowsAlike test nx row end

-- a block holds a place
abbrev pub is_held : Block → ℕ → Bool
is_held block place = not (nat_lt place block.start) && nat_lt place (block.start + block.length)

-- the needed cells of a row in a block of columns
unfoldable pub needed_in_row : (ℕ → Bool) → ℕ → Block → ℕ → List ℕ
needed_in_row test nx columns row = filter test (range_with_len (cell_in nx row columns.start) columns.length)

-- the needed cells of n rows in a block of columns
unfoldable pub needed_in_rows : (ℕ → Bool) → ℕ → Block → ℕ → ℕ → List ℕ
needed_in_rows test nx columns row n = flat_map (needed_in_row test nx columns) (range_with_len row n)

-- cells, and the cells below them in each of further rows, in n rows together
unfoldable pub in_rows : ℕ → List ℕ → ℕ → List ℕ
in_rows nx cells n = flat_map (λ further. map (λ s. s + further * nx) cells) (range_with_len 0 n)
