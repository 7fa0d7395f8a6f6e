-- Grids of columns and rows, the sequence indices of their cells, and the neighbours of a cell.
use Rattle.std.specs.Prelude.{◌≡◌, ℕ, ◌+◌, ◌-◌, ◌*◌, ◌/◌, ◌%◌, ◌^◌, ◌≤◌, ℤ, pos, ◌+ℤ◌, ◌-ℤ◌, if◌then◌else◌, unsigned_abs, List}
use Rattle.std.specs.Int.{int_max, int_min, int_rem_euclid}
use Rattle.std.specs.List.{range_with_len}
use Rattle.cpl_grid.specs.declared.grid.Grid.{Grid}

-- how many cells a grid has
abbrev pub cells_in : Grid → ℕ
cells_in grid = grid.nx * grid.ny

-- there is a cell, and there are not too many
pub record IsGrid (grid : Grid) : Type 0 where
  pub columns : 1 ≤ grid.nx
  pub rows : 1 ≤ grid.ny
  pub cells : cells_in grid ≤ 2 ^ 20

-- a sequence index of the grid
pub record IsCell (grid : Grid) (s : ℕ) : Type 0 where
  pub from_one : 1 ≤ s
  pub within : s ≤ cells_in grid

-- a column of the grid
pub record IsColumn (grid : Grid) (i : ℕ) : Type 0 where
  pub from_one : 1 ≤ i
  pub within : i ≤ grid.nx

-- a row of the grid
pub record IsRow (grid : Grid) (j : ℕ) : Type 0 where
  pub from_one : 1 ≤ j
  pub within : j ≤ grid.ny

-- the sequence indices of a grid, ascending
abbrev pub indices : Grid → List ℕ
indices grid = range_with_len 1 (cells_in grid)

-- the sequence index of the cell in column i and row j, all from 1
abbrev pub index_of : Grid → ℕ → ℕ → ℕ
index_of grid i j = i + (j - 1) * grid.nx

-- the column of a cell
abbrev pub column_of : Grid → ℕ → ℕ
column_of grid s = (s - 1) % grid.nx + 1

-- the row of a cell
abbrev pub row_of : Grid → ℕ → ℕ
row_of grid s = (s - 1) / grid.nx + 1

-- an offset reaches at most two cells
abbrev pub IsOffset : ℤ → Type 0
IsOffset z = unsigned_abs z ≤ 2

-- of the numbers from 1 to n, the one nearest to z
unfoldable pub nearest_number : ℕ → ℤ → ℕ
nearest_number n z = unsigned_abs (int_max (pos 1) (int_min z (pos n)))

-- of the numbers from 1 to n, the one that z comes to on a ring of n
unfoldable pub ring_number : ℕ → ℤ → ℕ
ring_number n z = 1 + unsigned_abs (int_rem_euclid (z -ℤ pos 1) (pos n))

-- the column that z comes to: on a ring where the grid is periodic, else at the nearest edge
unfoldable pub column_at : Grid → ℤ → ℕ
column_at grid z = if grid.periodic then ring_number grid.nx z else nearest_number grid.nx z

-- the row that z comes to: at the nearest edge
unfoldable pub row_at : Grid → ℤ → ℕ
row_at grid z = nearest_number grid.ny z

-- the cell that lies so many columns and rows from a cell
unfoldable pub neighbour_of : Grid → ℕ → ℤ → ℤ → ℕ
neighbour_of grid s dx dy =
    index_of grid (column_at grid (pos (column_of grid s) +ℤ dx)) (row_at grid (pos (row_of grid s) +ℤ dy))

-- how cells are numbered: index, column and row are inverse, and a neighbour is its column and its row, the two apart
pub record IsNumbering (grid : Grid) : Type 0 where
  pub cell : (i j : ℕ) → IsColumn grid i → IsRow grid j → IsCell grid (index_of grid i j)
  pub column : (s : ℕ) → IsCell grid s → IsColumn grid (column_of grid s)
  pub row : (s : ℕ) → IsCell grid s → IsRow grid (row_of grid s)
  pub index_again : (s : ℕ) → IsCell grid s → index_of grid (column_of grid s) (row_of grid s) ≡ s
  pub column_again : (i j : ℕ) → IsColumn grid i → IsRow grid j → column_of grid (index_of grid i j) ≡ i
  pub row_again : (i j : ℕ) → IsColumn grid i → IsRow grid j → row_of grid (index_of grid i j) ≡ j
  pub column_within : (z : ℤ) → IsColumn grid (column_at grid z)
  pub row_within : (z : ℤ) → IsRow grid (row_at grid z)
  pub column_here : (i : ℕ) → IsColumn grid i → column_at grid (pos i) ≡ i
  pub row_here : (j : ℕ) → IsRow grid j → row_at grid (pos j) ≡ j
  pub neighbour_cell : (s : ℕ) (dx dy : ℤ) → IsCell grid (neighbour_of grid s dx dy)
  pub neighbour_column : (s : ℕ) (dx dy : ℤ) → column_of grid (neighbour_of grid s dx dy) ≡ column_at grid (pos (column_of grid s) +ℤ dx)
  pub neighbour_row : (s : ℕ) (dx dy : ℤ) → row_of grid (neighbour_of grid s dx dy) ≡ row_at grid (pos (row_of grid s) +ℤ dy)
