-- Parts of a grid: a block of columns and a block of rows, and the cells where they meet.
use Rattle.std.specs.Prelude.{◌≡◌, ℕ, ◌+◌, ◌-◌, ◌*◌, ◌<◌, ◌≤◌, List, length, Some, slice_get}
use Rattle.std.specs.List.{flat_map, range_with_len}
use Rattle.cpl_grid.specs.Blocks.{Holds, numbers_below}
use Rattle.cpl_grid.specs.Grid.{column_of, index_of, row_of}
use Rattle.cpl_grid.specs.declared.blocks.Part.{Part}
use Rattle.cpl_grid.specs.declared.grid.Grid.{Grid}

-- both blocks lie within the grid
pub record IsPart (grid : Grid) (part : Part) : Type 0 where
  pub columns : part.columns.start + part.columns.length ≤ grid.nx
  pub rows : part.rows.start + part.rows.length ≤ grid.ny

-- the cell in column i and row j of a part, both from 0
abbrev pub part_cell : Grid → Part → ℕ → ℕ → ℕ
part_cell grid part i j = index_of grid (part.columns.start + i + 1) (part.rows.start + j + 1)

-- the cells in row j of a part, which follow one another
abbrev pub part_row : Grid → Part → ℕ → List ℕ
part_row grid part j = range_with_len (part_cell grid part 0 j) part.columns.length

-- the cells of a part: its rows, end to end
unfoldable pub cells_of_part : Grid → Part → List ℕ
cells_of_part grid part = flat_map (part_row grid part) (numbers_below part.rows.length)

-- the part that has all cells
abbrev pub whole_part : Grid → Part
whole_part grid =
    record { columns = record { start = 0; length = grid.nx }; rows = record { start = 0; length = grid.ny } }

-- the column and the row of a cell are in the part
pub record IsInPart (grid : Grid) (part : Part) (s : ℕ) : Type 0 where
  pub column : Holds part.columns (column_of grid s - 1)
  pub row : Holds part.rows (row_of grid s - 1)

-- a list is as long as a part has cells, and has each cell at the place that its column and row in the part give
pub record ListsPart (cells : List ℕ) (grid : Grid) (part : Part) : Type 0 where
  pub count : part.columns.length * part.rows.length ≡ length cells
  pub places : (i j : ℕ) → i < part.columns.length → j < part.rows.length → slice_get cells (i + j * part.columns.length) ≡ Some (part_cell grid part i j)
