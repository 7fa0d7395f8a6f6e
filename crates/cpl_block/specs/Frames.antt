-- A block of a grid with a ring of places around it: which cell each place stands for.
use Rattle.std.specs.Prelude.{◌≡◌, ℕ, ◌+◌, ◌-◌, ◌*◌, ◌/◌, ◌%◌, ◌<◌, ◌≤◌}
use Rattle.std.specs.Prelude.{◌&&◌, Bool, true, ℤ, pos, ◌+ℤ◌, ◌-ℤ◌, List, map, nat_le, nat_lt, slice_index_or, unsigned_abs}
use Rattle.cpl_grid.specs.Blocks.{numbers_below}
use Rattle.cpl_grid.specs.Grid.{IsGrid, column_at, column_of, index_of, row_at, row_of}
use Rattle.cpl_grid.specs.Parts.{IsPart, cells_of_part, part_cell}
use Rattle.cpl_block.specs.declared.frame.Frame.{Frame}

-- the block lies within the grid and has a cell, and the ring is at most two columns and two rows wide
pub record IsFrame (frame : Frame) : Type 0 where
  pub grid : IsGrid frame.grid
  pub part : IsPart frame.grid frame.part
  pub columns : 1 ≤ frame.part.columns.length
  pub rows : 1 ≤ frame.part.rows.length
  pub across : frame.rx ≤ 2
  pub down : frame.ry ≤ 2

-- how many places a row has: the block's columns, and the ring's on both sides
abbrev pub row_length : Frame → ℕ
row_length frame = frame.part.columns.length + 2 * frame.rx

-- how many places there are
abbrev pub places_in : Frame → ℕ
places_in frame = row_length frame * (frame.part.rows.length + 2 * frame.ry)

-- all places, ascending
abbrev pub all_places : Frame → List ℕ
all_places frame = numbers_below (places_in frame)

-- a column and a row of the block, both counted from 0
pub record IsSpot (frame : Frame) (a b : ℕ) : Type 0 where
  pub column : a < frame.part.columns.length
  pub row : b < frame.part.rows.length

-- the cell in column a and row b of the block
abbrev pub cell_at : Frame → ℕ → ℕ → ℕ
cell_at frame a b = part_cell frame.grid frame.part a b

-- an offset that leads from the block into the ring at most
pub record IsReached (frame : Frame) (dx dy : ℤ) : Type 0 where
  pub across : unsigned_abs dx ≤ frame.rx
  pub down : unsigned_abs dy ≤ frame.ry

-- the place at an offset from that of the block's first cell
abbrev pub first_of : Frame → ℤ → ℤ → ℕ
first_of frame dx dy =
    unsigned_abs (pos frame.ry +ℤ dy) * row_length frame + unsigned_abs (pos frame.rx +ℤ dx)

-- how far the place of the cell in column a and row b lies behind that of the block's first cell
abbrev pub step_to : Frame → ℕ → ℕ → ℕ
step_to frame a b = b * row_length frame + a

-- how many places there are from the block's first cell to its last, both included
abbrev pub span_of : Frame → ℕ
span_of frame = (frame.part.rows.length - 1) * row_length frame + frame.part.columns.length

-- the place of the cell in column a and row b of the block
abbrev pub place_at : Frame → ℕ → ℕ → ℕ
place_at frame a b = first_of frame (pos 0) (pos 0) + step_to frame a b

-- The cell that a place stands for. Counted on from the block's own columns and rows, those of the ring are brought into
-- the grid as a neighbour's are.
unfoldable pub stands_for : Frame → ℕ → ℕ
stands_for frame place =
    let column = frame.part.columns.start + 1 + place % row_length frame in
    let row = frame.part.rows.start + 1 + place / row_length frame in
    index_of frame.grid (column_at frame.grid (pos column -ℤ pos frame.rx)) (row_at frame.grid (pos row -ℤ pos frame.ry))

-- a number is one of so many from a first one on
abbrev pub is_among : ℕ → ℕ → ℕ → Bool
is_among start count k = nat_le start k && nat_lt k (start + count)

-- whether a place is one of the block, not of the ring
unfoldable pub is_own : Frame → ℕ → Bool
is_own frame place =
    is_among frame.rx frame.part.columns.length (place % row_length frame)
    && is_among frame.ry frame.part.rows.length (place / row_length frame)

-- whether a cell is one of the block
unfoldable pub is_ours : Frame → ℕ → Bool
is_ours frame s =
    is_among frame.part.columns.start frame.part.columns.length (column_of frame.grid s - 1)
    && is_among frame.part.rows.start frame.part.rows.length (row_of frame.grid s - 1)

-- the place of a cell of the block
unfoldable pub home_of : Frame → ℕ → ℕ
home_of frame s =
    place_at frame (column_of frame.grid s - 1 - frame.part.columns.start) (row_of frame.grid s - 1 - frame.part.rows.start)

-- the value of a field at a place
abbrev pub value_at : List ℤ → ℕ → ℤ
value_at field place = slice_index_or field place (pos 0)

-- the values of the block's cells, in the order of the cells
abbrev pub values_in : Frame → List ℤ → List ℤ
values_in frame field = map (λ s. value_at field (home_of frame s)) (cells_of_part frame.grid frame.part)

-- each place that passes a test holds the value of the cell that it stands for
abbrev pub HoldsWhere : (ℕ → Bool) → Frame → (ℕ → ℤ) → List ℤ → Type 0
HoldsWhere test frame value field =
    (place : ℕ) → place < places_in frame → test place ≡ true → value_at field place ≡ value (stands_for frame place)

-- each place of the block holds its cell's value
abbrev pub IsOwn : Frame → (ℕ → ℤ) → List ℤ → Type 0
IsOwn frame value field = HoldsWhere (is_own frame) frame value field

-- all places hold the values of the cells that they stand for
abbrev pub IsRinged : Frame → (ℕ → ℤ) → List ℤ → Type 0
IsRinged frame value field =
    (place : ℕ) → place < places_in frame → value_at field place ≡ value (stands_for frame place)
