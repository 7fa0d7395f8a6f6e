-- The definitions of grids and their owners, evaluated on examples.
use Rattle.std.specs.Prelude.{◌≡◌, ℕ, ℤ, pos, neg_ℤ, false, true, List, [], ◌∷◌, map, length}
use Rattle.cpl_grid.specs.Blocks.{block_start, holder, lengths, numbers_below}
use Rattle.cpl_grid.specs.Grid.{column_of, index_of, indices, neighbour_of, row_of}
use Rattle.cpl_grid.specs.Owners.{Layout, all_owned, cells_of, owner_of, part_of}
use Rattle.cpl_grid.specs.Parts.{cells_of_part, whole_part}
use Rattle.cpl_grid.specs.declared.blocks.Part.{Part}
use Rattle.cpl_grid.specs.declared.grid.Grid.{Grid}

-- a grid that isn't periodic
abbrev pub plain_grid : ℕ → ℕ → Grid
plain_grid nx ny = record { nx = nx; ny = ny; periodic = false }

-- a grid that is periodic
abbrev pub ring_grid : ℕ → ℕ → Grid
ring_grid nx ny = record { nx = nx; ny = ny; periodic = true }

-- five columns on three PETs from PET 4 on
abbrev pub five_on_three : Layout
five_on_three = record { grid = plain_grid 5 1; px = 3; py = 1; first_pet = 4 }

-- four columns and three rows on three by two PETs
abbrev pub four_by_three : Layout
four_by_three = record { grid = plain_grid 4 3; px = 3; py = 2; first_pet = 0 }

-- two cells on three PETs
abbrev pub two_on_three : Layout
two_on_three = record { grid = plain_grid 2 1; px = 3; py = 1; first_pet = 0 }

-- the offsets of at most two
abbrev pub offsets : List ℤ
offsets = neg_ℤ (pos 2) ∷ neg_ℤ (pos 1) ∷ pos 0 ∷ pos 1 ∷ pos 2 ∷ []

-- the neighbours of a cell along its row
abbrev pub along_row : Grid → ℕ → List ℕ
along_row grid s = map (λ dx. neighbour_of grid s dx (pos 0)) offsets

-- the neighbours of a cell along its column
abbrev pub along_column : Grid → ℕ → List ℕ
along_column grid s = map (λ dy. neighbour_of grid s (pos 0) dy) offsets

-- what the cells of a grid have at an offset along their row
abbrev pub shifted_cells : Grid → ℤ → List ℕ
shifted_cells grid dx = map (λ s. neighbour_of grid s dx (pos 0)) (indices grid)

-- a part, from its first column, the number of its columns, its first row, and the number of its rows
abbrev pub part : ℕ → ℕ → ℕ → ℕ → Part
part x w y h = record { columns = record { start = x; length = w }; rows = record { start = y; length = h } }

-- columns and rows, blocks and their PETs, the parts and the cells of each PET, and neighbours
pub record GridExamples : Type 0 where
  pub columns : map (column_of (plain_grid 3 2)) (indices (plain_grid 3 2)) ≡ 1 ∷ 2 ∷ 3 ∷ 1 ∷ 2 ∷ 3 ∷ []
  pub rows : map (row_of (plain_grid 3 2)) (indices (plain_grid 3 2)) ≡ 1 ∷ 1 ∷ 1 ∷ 2 ∷ 2 ∷ 2 ∷ []
  pub index : index_of (plain_grid 4 3) 2 3 ≡ 10
  pub five_in_three : lengths 5 3 ≡ 2 ∷ 2 ∷ 1 ∷ []
  pub five_starts : map (block_start 5 3) (numbers_below 4) ≡ 0 ∷ 2 ∷ 4 ∷ 5 ∷ []
  pub five_holders : map (holder (lengths 5 3)) (numbers_below 5) ≡ 0 ∷ 0 ∷ 1 ∷ 1 ∷ 2 ∷ []
  pub five_owners : map (owner_of five_on_three) (indices (plain_grid 5 1)) ≡ 4 ∷ 4 ∷ 5 ∷ 5 ∷ 6 ∷ []
  pub two_in_three : lengths 2 3 ≡ 1 ∷ 1 ∷ 0 ∷ []
  pub block_0_0 : cells_of four_by_three 0 ≡ 1 ∷ 2 ∷ 5 ∷ 6 ∷ []
  pub block_1_0 : cells_of four_by_three 1 ≡ 3 ∷ 7 ∷ []
  pub block_2_0 : cells_of four_by_three 2 ≡ 4 ∷ 8 ∷ []
  pub block_0_1 : cells_of four_by_three 3 ≡ 9 ∷ 10 ∷ []
  pub block_1_1 : cells_of four_by_three 4 ≡ 11 ∷ []
  pub block_2_1 : cells_of four_by_three 5 ≡ 12 ∷ []
  pub all_blocks : all_owned four_by_three ≡ 12
  pub part_0_0 : part_of four_by_three 0 ≡ part 0 2 0 2
  pub part_1_0 : part_of four_by_three 1 ≡ part 2 1 0 2
  pub part_2_1 : part_of four_by_three 5 ≡ part 3 1 2 1
  pub part_of_five : map (part_of five_on_three) (4 ∷ 5 ∷ 6 ∷ []) ≡ part 0 2 0 1 ∷ part 2 2 0 1 ∷ part 4 1 0 1 ∷ []
  pub part_with_none : part_of two_on_three 2 ≡ part 2 0 0 1
  pub rows_of_part : cells_of_part (plain_grid 4 3) (part 1 2 0 3) ≡ 2 ∷ 3 ∷ 6 ∷ 7 ∷ 10 ∷ 11 ∷ []
  pub rows_of_whole : cells_of_part (plain_grid 2 2) (whole_part (plain_grid 2 2)) ≡ 1 ∷ 2 ∷ 3 ∷ 4 ∷ []
  pub rows_of_none : cells_of_part (plain_grid 4 3) (part 1 0 0 3) ≡ []
  pub two_counts : map (λ pet. length (cells_of two_on_three pet)) (numbers_below 3) ≡ 1 ∷ 1 ∷ 0 ∷ []
  pub ring_of_three_forward : shifted_cells (ring_grid 3 1) (pos 1) ≡ 2 ∷ 3 ∷ 1 ∷ []
  pub ring_of_three_back_two : shifted_cells (ring_grid 3 1) (neg_ℤ (pos 2)) ≡ 2 ∷ 3 ∷ 1 ∷ []
  pub ring_of_one : along_row (ring_grid 1 1) 1 ≡ 1 ∷ 1 ∷ 1 ∷ 1 ∷ 1 ∷ []
  pub ring_of_two : along_row (ring_grid 2 1) 1 ≡ 1 ∷ 2 ∷ 1 ∷ 2 ∷ 1 ∷ []
  pub ring_second_row : along_row (ring_grid 3 2) 4 ≡ 5 ∷ 6 ∷ 4 ∷ 5 ∷ 6 ∷ []
  pub edge_first : along_row (plain_grid 3 1) 1 ≡ 1 ∷ 1 ∷ 1 ∷ 2 ∷ 3 ∷ []
  pub edge_middle : along_row (plain_grid 3 1) 2 ≡ 1 ∷ 1 ∷ 2 ∷ 3 ∷ 3 ∷ []
  pub edge_last : along_row (plain_grid 3 1) 3 ≡ 1 ∷ 2 ∷ 3 ∷ 3 ∷ 3 ∷ []
  pub rows_of_ring : along_column (ring_grid 2 3) 1 ≡ 1 ∷ 1 ∷ 1 ∷ 3 ∷ 5 ∷ []
  pub rows_of_plain : along_column (plain_grid 2 3) 6 ≡ 2 ∷ 4 ∷ 6 ∷ 6 ∷ 6 ∷ []
  pub corner_of_ring : neighbour_of (ring_grid 3 2) 1 (neg_ℤ (pos 1)) (neg_ℤ (pos 1)) ≡ 3
  pub corner_of_plain : neighbour_of (plain_grid 3 2) 6 (pos 2) (pos 1) ≡ 6
