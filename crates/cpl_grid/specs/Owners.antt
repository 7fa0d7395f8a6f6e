-- Which PET owns a cell of a decomposed grid, and which cells a PET owns.
use Rattle.std.specs.Prelude.{◌≡◌, ◌↔◌, ℕ, ◌+◌, ◌-◌, ◌*◌, ◌/◌, ◌%◌, ◌≤◌, ◌<◌, ◌==◌, List, length, filter, sum_by, Some, slice_get}
use Rattle.cpl_grid.specs.Blocks.{block_at, holder, lengths, numbers_below}
use Rattle.cpl_grid.specs.Grid.{IsCell, IsGrid, cells_in, column_of, indices, row_of}
use Rattle.cpl_grid.specs.Parts.{IsInPart, IsPart, ListsPart, cells_of_part}
use Rattle.cpl_grid.specs.declared.blocks.Part.{Part}
use Rattle.cpl_grid.specs.declared.grid.Grid.{Grid}

-- a grid, cut into px blocks of columns and py blocks of rows, and the PET of the first block
pub record Layout : Type 0 where
  pub grid : Grid
  pub px : ℕ
  pub py : ℕ
  pub first_pet : ℕ

-- how many PETs have a block
abbrev pub pets_in : Layout → ℕ
pets_in layout = layout.px * layout.py

-- each dimension has a block, and the last block's PET is at most 63
pub record IsLayout (layout : Layout) : Type 0 where
  pub grid : IsGrid layout.grid
  pub columns : 1 ≤ layout.px
  pub rows : 1 ≤ layout.py
  pub pets : layout.first_pet + pets_in layout ≤ 64

-- a PET that has a block
pub record IsPet (layout : Layout) (pet : ℕ) : Type 0 where
  pub from_first : layout.first_pet ≤ pet
  pub within : pet < layout.first_pet + pets_in layout

-- the PET that owns a cell: blocks are counted along the columns first
unfoldable pub owner_of : Layout → ℕ → ℕ
owner_of layout s =
    let across = holder (lengths layout.grid.nx layout.px) (column_of layout.grid s - 1) in
    let down = holder (lengths layout.grid.ny layout.py) (row_of layout.grid s - 1) in
    layout.first_pet + (across + down * layout.px)

-- the sequence indices of the cells that a PET owns, ascending
unfoldable pub cells_of : Layout → ℕ → List ℕ
cells_of layout pet = filter (λ s. owner_of layout s == pet) (indices layout.grid)

-- the columns and the rows of a PET's block
abbrev pub part_of : Layout → ℕ → Part
part_of layout pet =
    let block = pet - layout.first_pet in
    record {
      columns = block_at layout.grid.nx layout.px (block % layout.px);
      rows = block_at layout.grid.ny layout.py (block / layout.px);
    }

-- what a PET owns is a part: its list of cells is the part's rows end to end, and a cell is its own exactly where the column and the row are in the part
pub record IsPartOf (layout : Layout) (pet : ℕ) (part : Part) : Type 0 where
  pub within : IsPart layout.grid part
  pub rows : cells_of layout pet ≡ cells_of_part layout.grid part
  pub cells : ListsPart (cells_of layout pet) layout.grid part
  pub few : length (cells_of layout pet) ≤ cells_in layout.grid
  pub owned : (s : ℕ) → IsCell layout.grid s → (owner_of layout s ≡ pet) ↔ IsInPart layout.grid part s

-- how many cells all PETs own together
abbrev pub all_owned : Layout → ℕ
all_owned layout =
    sum_by (λ b. length (cells_of layout (layout.first_pet + b))) (numbers_below (pets_in layout))

-- each cell is in the list of one PET, at one place, the lists together are as long as the grid, and what a PET owns is a part
pub record IsDivision (layout : Layout) : Type 0 where
  pub owner_is_pet : (s : ℕ) → IsCell layout.grid s → IsPet layout (owner_of layout s)
  pub owned : (s : ℕ) → IsCell layout.grid s → (k : ℕ) × (slice_get (cells_of layout (owner_of layout s)) k ≡ Some s)
  pub by_owner : (pet k s : ℕ) → slice_get (cells_of layout pet) k ≡ Some s → owner_of layout s ≡ pet
  pub once : (pet k l s : ℕ) → slice_get (cells_of layout pet) k ≡ Some s → slice_get (cells_of layout pet) l ≡ Some s → k ≡ l
  pub adds_up : all_owned layout ≡ cells_in layout.grid
  pub parts : (pet : ℕ) → IsPet layout pet → IsPartOf layout pet (part_of layout pet)
