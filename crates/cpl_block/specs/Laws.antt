-- What holds of the places of every block.
use Rattle.std.specs.Prelude.{◌≡◌, ◌↔◌, false, ℕ, ◌+◌, ◌*◌, ◌^◌, ◌<◌, ◌≤◌, true, ℤ, pos, List, drop, length, map, take}
use Rattle.std.specs.List.{flat_map}
use Rattle.cpl_grid.specs.Blocks.{numbers_below}
use Rattle.cpl_grid.specs.Grid.{IsCell, indices, neighbour_of}
use Rattle.cpl_grid.specs.Parts.{IsInPart, cells_of_part}
use Rattle.cpl_block.specs.Frames.{IsOwn, IsReached, IsSpot, cell_at, first_of, home_of, is_ours, is_own, place_at, places_in, row_length, span_of, stands_for, step_to, values_in}
use Rattle.cpl_block.specs.Rings.{is_far}
use Rattle.cpl_block.specs.declared.frame.Frame.{Frame}

-- a place of the block is that of a cell in its column and its row, both from 0
pub record IsPlaceOfBlock (frame : Frame) (place : ℕ) : Type 0 where
  pub a : ℕ
  pub b : ℕ
  pub spot : IsSpot frame a b
  pub is : place ≡ place_at frame a b

-- a cell of the block has a column and a row in it, both from 0
pub record IsCellOfBlock (frame : Frame) (s : ℕ) : Type 0 where
  pub a : ℕ
  pub b : ℕ
  pub spot : IsSpot frame a b
  pub is : s ≡ cell_at frame a b

-- a place is the home of a cell of the block: one of the block's, which stands for that cell
pub record IsHome (frame : Frame) (s place : ℕ) : Type 0 where
  pub within : place < places_in frame
  pub own : is_own frame place ≡ true
  pub stands : stands_for frame place ≡ s

-- How places and cells belong together: a place at a constant shift from a cell's own stands for the neighbour at that
-- offset, runs of places at a shift lie within, and the block's places are the homes of its cells.
pub record IsFraming (frame : Frame) : Type 0 where
  pub reaches : (a b : ℕ) (dx dy : ℤ) → IsSpot frame a b → IsReached frame dx dy
      → stands_for frame (first_of frame dx dy + step_to frame a b) ≡ neighbour_of frame.grid (cell_at frame a b) dx dy
  pub within : (a b : ℕ) (dx dy : ℤ) → IsSpot frame a b → IsReached frame dx dy
      → first_of frame dx dy + step_to frame a b < places_in frame
  pub ends : (dx dy : ℤ) → IsReached frame dx dy → first_of frame dx dy + span_of frame ≤ places_in frame
  pub steps : (a b : ℕ) → IsSpot frame a b → step_to frame a b < span_of frame
  pub few : places_in frame ≤ 2 ^ 24
  pub here : (a b : ℕ) → IsSpot frame a b → IsHome frame (cell_at frame a b) (place_at frame a b)
  pub own : (place : ℕ) → place < places_in frame → is_own frame place ≡ true → IsPlaceOfBlock frame place
  pub cell : (place : ℕ) → IsCell frame.grid (stands_for frame place)
  pub ours : (a b : ℕ) → IsSpot frame a b → is_ours frame (cell_at frame a b) ≡ true
  pub owner : (s : ℕ) → IsCell frame.grid s → is_ours frame s ≡ true → IsCellOfBlock frame s
  pub part : (s : ℕ) → (is_ours frame s ≡ true) ↔ IsInPart frame.grid frame.part s
  pub home : (a b : ℕ) → IsSpot frame a b → home_of frame (cell_at frame a b) ≡ place_at frame a b
  pub homes : (s : ℕ) → IsCell frame.grid s → is_ours frame s ≡ true → IsHome frame s (home_of frame s)
  pub listed : (value : ℕ → ℤ) (field : List ℤ) → IsOwn frame value field
      → values_in frame field ≡ map value (cells_of_part frame.grid frame.part)
  pub held : (value : ℕ → ℤ) (field : List ℤ)
      → values_in frame field ≡ map value (cells_of_part frame.grid frame.part) → IsOwn frame value field

-- a block that has all cells: its list is that of the grid, each cell is its own, and no place stands for another's
pub record IsAlone (frame : Frame) : Type 0 where
  pub cells : cells_of_part frame.grid frame.part ≡ indices frame.grid
  pub ours : (s : ℕ) → IsCell frame.grid s → is_ours frame s ≡ true
  pub far : (place : ℕ) → is_far frame place ≡ false

-- the values in row b of the block, which follow one another in a field
abbrev pub row_at_places : Frame → List ℤ → ℕ → List ℤ
row_at_places frame field b =
    take frame.part.columns.length (drop (first_of frame (pos 0) (pos 0) + b * row_length frame) field)

-- the block's values are its rows, end to end
abbrev pub IsInRows : Frame → Type 0
IsInRows frame =
    (field : List ℤ) → length field ≡ places_in frame
    → values_in frame field ≡ flat_map (row_at_places frame field) (numbers_below frame.part.rows.length)
