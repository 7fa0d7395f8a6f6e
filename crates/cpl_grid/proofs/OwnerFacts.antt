-- Which PET owns a cell, and the part that a PET owns.
use Rattle.std.proofs.Common.{◌≡◌, ℕ, ◌+◌, ◌-◌, ◌*◌, ◌/◌, ◌%◌, ◌<◌, ◌≤◌, ◌^◌, ◌↔◌, eqb, length, Some, refl, sym, ap, subst, ◌∙◌, inl, inr, arith}
use Rattle.std.specs.Prelude.{slice_get}
use Rattle.std.proofs.lemmas.Bool.{cases_lt, eq-eqb, eqb-true}
use Rattle.std.proofs.lemmas.List.FromFn.{length-range_with_len}
use Rattle.std.proofs.lemmas.Nat.{div-add-mod', div-mul-add, div_below, mod-mul-add, mod_below, mul-add-lt, mul-le, same_from_place}
use Rattle.std.proofs.lemmas.Option.{slice_get_within}
use Rattle.cpl_grid.specs.Blocks.{block_at, holder, lengths}
use Rattle.cpl_grid.specs.Grid.{IsCell, cells_in, column_of, indices, row_of}
use Rattle.cpl_grid.specs.Owners.{IsDivision, IsLayout, IsPartOf, IsPet, Layout, all_owned, cells_of, owner_of, part_of, pets_in}
use Rattle.cpl_grid.specs.Parts.{IsInPart, IsPart, ListsPart, cells_of_part, part_cell}
use Rattle.cpl_grid.specs.declared.blocks.Block.{Block}
use Rattle.cpl_grid.specs.declared.blocks.Part.{Part}
use Rattle.cpl_grid.specs.declared.grid.Grid.{Grid}
use Rattle.cpl_grid.proofs.BlockFacts.{IsHolder, block-within, holder-is, holds-holder}
use Rattle.cpl_grid.proofs.BoxFacts.{IsBox}
use Rattle.cpl_grid.proofs.GridFacts.{column_of-column, index_of-again, row_of-row}
use Rattle.cpl_grid.proofs.PartFacts.{cells_of_part-box, cells_of_part-lists}
use Rattle.cpl_grid.proofs.RangeFacts.{All-range, kept_once, kept_passes, kept_within}
use Rattle.cpl_grid.proofs.TotalFacts.{all_parts}

-- the column of a cell, from its column and row
column_back : (nx i j : ℕ) → i < nx → (1 + j * nx + i - 1) % nx + 1 - 1 ≡ i
column_back nx i j inside =
    let place : 1 + j * nx + i - 1 ≡ j * nx + i = omega arith in
    rw (place, mod-mul-add j nx i inside) (omega arith)

-- its row
row_back : (nx i j : ℕ) → i < nx → (1 + j * nx + i - 1) / nx + 1 - 1 ≡ j
row_back nx i j inside =
    let place : 1 + j * nx + i - 1 ≡ j * nx + i = omega arith in
    rw (place, div-mul-add j nx i inside) (omega arith)

-- the PET that owns the cell in column i and row j, both from 0
owner_of-at : (layout : Layout) (i j : ℕ) → i < layout.grid.nx → owner_of layout (1 + j * layout.grid.nx + i) ≡ layout.first_pet + (holder (lengths layout.grid.nx layout.px) i + holder (lengths layout.grid.ny layout.py) j * layout.px)
unfolding owner_of
owner_of-at layout i j inside =
    rw (column_back layout.grid.nx i j inside, row_back layout.grid.nx i j inside) refl

-- a PET's block, among the columns
abbrev across : Layout → ℕ → ℕ
across layout pet = (pet - layout.first_pet) % layout.px

-- among the rows
abbrev down : Layout → ℕ → ℕ
down layout pet = (pet - layout.first_pet) / layout.px

-- the block of a PET is one of the columns' and one of the rows'
record IsBlock (layout : Layout) (pet : ℕ) : Type 0 where
  column : across layout pet < layout.px
  row : down layout pet < layout.py
  is_pet : layout.first_pet + (across layout pet + down layout pet * layout.px) ≡ pet

-- each PET has one
block_of-pet : (layout : Layout) (pet : ℕ) → IsLayout layout → IsPet layout pet → IsBlock layout pet
block_of-pet layout pet is in_range =
    let b = pet - layout.first_pet in
    let from = in_range.from_first in
    let to = in_range.within in
    let some : 0 < layout.px = is.columns in
    let below : b < layout.py * layout.px = omega arith in
    record {
      column = mod_below b layout.px some;
      row = div_below b layout.px layout.py some below;
      is_pet = omega (arith, div-add-mod' b layout.px);
    }

-- the cells of a PET are those of the columns and rows of a part
abbrev HasBox : Layout → ℕ → Part → Type 0
HasBox layout pet part =
    IsBox (λ s. eqb (owner_of layout s) pet) layout.grid.nx layout.grid.ny part.columns.start part.columns.length part.rows.start part.rows.length

-- the box of a PET
box_of-pet : (layout : Layout) (pet : ℕ) → IsLayout layout → IsPet layout pet → HasBox layout pet (part_of layout pet)
box_of-pet layout pet is in_range =
    let nx = layout.grid.nx in
    let ny = layout.grid.ny in
    let bx = across layout pet in
    let by = down layout pet in
    let block = block_of-pet layout pet is in_range in
    let width = block-within nx layout.px bx block.column in
    let height = block-within ny layout.py by block.row in
    record {
      columns = width;
      rows = height;
      has = λ i j right before_right below before_below.
          let column : holder (lengths nx layout.px) i ≡ bx = holder-is nx layout.px bx i (record { inside = block.column; started = right; not_ended = before_right }) in
          let row : holder (lengths ny layout.py) j ≡ by = holder-is ny layout.py by j (record { inside = block.row; started = below; not_ended = before_below }) in
          let place : layout.first_pet + (holder (lengths nx layout.px) i + holder (lengths ny layout.py) j * layout.px) ≡ pet = rw (column, row) block.is_pet in
          eq-eqb (owner_of layout (1 + j * nx + i)) pet (owner_of-at layout i j (omega arith) ∙ place);
      only = λ i j in_row in_column same.
          let owner = sym (owner_of-at layout i j in_row) ∙ eqb-true (owner_of layout (1 + j * nx + i)) pet same in
          let hx = holder (lengths nx layout.px) i in
          let hy = holder (lengths ny layout.py) j in
          let column : IsHolder nx layout.px hx i = holds-holder nx layout.px i is.columns in_row in
          let row : IsHolder ny layout.py hy j = holds-holder ny layout.py j is.rows in_column in
          let at : layout.first_pet + (bx + by * layout.px) ≡ pet = block.is_pet in
          let place : hy * layout.px + hx ≡ by * layout.px + bx = omega arith in
          let blocks = same_from_place hy hx by bx layout.px column.inside block.column place in
          let column' = subst (λ b. IsHolder nx layout.px b i) blocks.1 column in
          let row' = subst (λ b. IsHolder ny layout.py b j) blocks.0 row in
          (column'.started, column'.not_ended, row'.started, row'.not_ended);
    }

-- a PET owns the cells of its list
pub cells_of-owner : (layout : Layout) (pet k s : ℕ) → slice_get (cells_of layout pet) k ≡ Some s → owner_of layout s ≡ pet
unfolding cells_of
cells_of-owner layout pet k s is =
    eqb-true (owner_of layout s) pet (kept_passes (λ t. eqb (owner_of layout t) pet) (indices layout.grid) k s is)

-- they are cells of the grid
cells_of-cell : (layout : Layout) (pet k s : ℕ) → slice_get (cells_of layout pet) k ≡ Some s → IsCell layout.grid s
unfolding cells_of
cells_of-cell layout pet k s is =
    let within = kept_within (λ t. eqb (owner_of layout t) pet) 1 (cells_in layout.grid) k s is in
    record { from_one = within.0; within = omega arith }

-- each is there once
pub cells_of-once : (layout : Layout) (pet k l s : ℕ) → slice_get (cells_of layout pet) k ≡ Some s → slice_get (cells_of layout pet) l ≡ Some s → k ≡ l
unfolding cells_of
cells_of-once layout pet k l s at_k at_l =
    kept_once (λ t. eqb (owner_of layout t) pet) 1 (cells_in layout.grid) k l s at_k at_l

-- the list of a PET's cells is its part's rows, end to end
cells_of-rows : (layout : Layout) (pet : ℕ) (part : Part) → HasBox layout pet part → cells_of layout pet ≡ cells_of_part layout.grid part
unfolding cells_of
cells_of-rows layout pet part box =
    cells_of_part-box (λ s. eqb (owner_of layout s) pet) layout.grid part box

-- a cell, from the places of its column and its row
cell_from-places : (grid : Grid) (s : ℕ) → IsCell grid s → 1 + (row_of grid s - 1) * grid.nx + (column_of grid s - 1) ≡ s
cell_from-places grid s cell =
    let again = index_of-again grid s cell in omega arith

-- the cells that a PET owns are those in its part
owner_of-part : (layout : Layout) (pet s : ℕ) (part : Part) → IsLayout layout → HasBox layout pet part → IsCell layout.grid s → (owner_of layout s ≡ pet) ↔ IsInPart layout.grid part s
owner_of-part layout pet s part is box cell =
    let grid = layout.grid in
    let i = column_of grid s - 1 in
    let j = row_of grid s - 1 in
    let at : 1 + j * grid.nx + i ≡ s = cell_from-places grid s cell in
    let column = column_of-column grid s is.grid in
    let row = row_of-row grid s is.grid cell in
    let right = column.within in
    let below = row.within in (
      λ owner.
          let same : owner_of layout (1 + j * grid.nx + i) ≡ pet = ap (owner_of layout) at ∙ owner in
          let inside = box.only i j (omega arith) (omega arith) (eq-eqb (owner_of layout (1 + j * grid.nx + i)) pet same) in
          record {
            column = record { from_start = inside.0; before_end = inside.1 };
            row = record { from_start = inside.2; before_end = inside.3 };
          },
      λ inside.
          let has = box.has i j inside.column.from_start inside.column.before_end inside.row.from_start inside.row.before_end in
          ap (owner_of layout) (sym at) ∙ eqb-true (owner_of layout (1 + j * grid.nx + i)) pet has,
    )

-- a part has no more cells than the grid
part-few : (grid : Grid) (part : Part) → IsPart grid part → part.columns.length * part.rows.length ≤ cells_in grid
part-few grid part within =
    let width = within.columns in
    let height = within.rows in
    mul-le part.columns.length part.rows.length grid.nx grid.ny (omega arith) (omega arith)

-- what a PET owns is a part
pub part_of-part : (layout : Layout) (pet : ℕ) → IsLayout layout → IsPet layout pet → IsPartOf layout pet (part_of layout pet)
part_of-part layout pet is in_range =
    let part = part_of layout pet in
    let box = box_of-pet layout pet is in_range in
    let rows = cells_of-rows layout pet part box in
    let within : IsPart layout.grid part = record { columns = box.columns; rows = box.rows } in
    let cells = subst (λ cells. ListsPart cells layout.grid part) (sym rows) (cells_of_part-lists layout.grid part) in
    let most = part-few layout.grid part within in
    let all = cells.count in
    record {
      within = within;
      rows = rows;
      cells = cells;
      few = omega arith;
      owned = λ s cell. owner_of-part layout pet s part is box cell;
    }

-- the owner of a cell is one of the PETs
owner_of-pet : (layout : Layout) (s : ℕ) → IsLayout layout → IsCell layout.grid s → IsPet layout (owner_of layout s)
owner_of-pet layout s is cell =
    let grid = layout.grid in
    let i = column_of grid s - 1 in
    let j = row_of grid s - 1 in
    let column' = column_of-column grid s is.grid in
    let row' = row_of-row grid s is.grid cell in
    let right = column'.within in
    let below = row'.within in
    let hx = holder (lengths grid.nx layout.px) i in
    let hy = holder (lengths grid.ny layout.py) j in
    let column : IsHolder grid.nx layout.px hx i = holds-holder grid.nx layout.px i is.columns (omega arith) in
    let row : IsHolder grid.ny layout.py hy j = holds-holder grid.ny layout.py j is.rows (omega arith) in
    let owner : owner_of layout s ≡ layout.first_pet + (hx + hy * layout.px) = ap (owner_of layout) (sym (cell_from-places grid s cell)) ∙ owner_of-at layout i j (omega arith) in
    let last = mul-add-lt hy layout.px hx layout.py row.inside column.inside in
    record { from_first = omega arith; within = omega arith }

-- the lists are together as long as the grid
all_owned-is : (layout : Layout) → IsLayout layout → all_owned layout ≡ cells_in layout.grid
unfolding cells_of
all_owned-is layout is =
    let cells = indices layout.grid in
    let pet : (s : ℕ) → 1 ≤ s → s < 1 + cells_in layout.grid → IsPet layout (owner_of layout s) = λ s from to. owner_of-pet layout s is (record { from_one = from; within = omega arith }) in
    let from = All-range (λ s. layout.first_pet ≤ owner_of layout s) 1 (cells_in layout.grid) (λ s a b. (pet s a b).from_first) in
    let to = All-range (λ s. owner_of layout s < layout.first_pet + pets_in layout) 1 (cells_in layout.grid) (λ s a b. (pet s a b).within) in
    all_parts (owner_of layout) layout.first_pet (pets_in layout) cells from to ∙ length-range_with_len 1 (cells_in layout.grid)

-- the place of a cell in a part
abbrev place_in : Grid → Part → ℕ → ℕ
place_in grid part s =
    column_of grid s - 1 - part.columns.start + (row_of grid s - 1 - part.rows.start) * part.columns.length

-- a cell of a part is at its place
cells_of-at : (layout : Layout) (pet s : ℕ) (part : Part) → IsPartOf layout pet part → IsCell layout.grid s → IsInPart layout.grid part s → slice_get (cells_of layout pet) (place_in layout.grid part s) ≡ Some s
cells_of-at layout pet s part is cell inside =
    let grid = layout.grid in
    let left = inside.column.from_start in
    let right = inside.column.before_end in
    let above = inside.row.from_start in
    let below = inside.row.before_end in
    let column : part.columns.start + (column_of grid s - 1 - part.columns.start) + 1 ≡ column_of grid s = omega arith in
    let row : part.rows.start + (row_of grid s - 1 - part.rows.start) + 1 ≡ row_of grid s = omega arith in
    let same : part_cell grid part (column_of grid s - 1 - part.columns.start) (row_of grid s - 1 - part.rows.start) ≡ s = rw (column, row) (index_of-again grid s cell) in
    is.cells.places (column_of grid s - 1 - part.columns.start) (row_of grid s - 1 - part.rows.start) (omega arith) (omega arith) ∙ ap Some same

-- each cell is in the list of its owner
owned_at : (layout : Layout) (s : ℕ) → IsLayout layout → IsCell layout.grid s → (k : ℕ) × (slice_get (cells_of layout (owner_of layout s)) k ≡ Some s)
owned_at layout s is cell =
    let pet = owner_of layout s in
    let part = part_of-part layout pet is (owner_of-pet layout s is cell) in
    let inside = (part.owned s cell).0 refl in
    (place_in layout.grid (part_of layout pet) s, cells_of-at layout pet s (part_of layout pet) part cell inside)

-- a part, from its blocks
pub part_of-is : (layout inside : Layout) (pet block : ℕ) (columns rows : Block) → inside ≡ layout → block ≡ pet - inside.first_pet → columns ≡ block_at inside.grid.nx inside.px (block % inside.px) → rows ≡ block_at inside.grid.ny inside.py (block / inside.px) → record { columns = columns; rows = rows } ≡ part_of layout pet
part_of-is layout inside pet block columns rows same block_is columns_is rows_is =
    rw (columns_is, rows_is, block_is, same) refl

-- what holds of every division
pub division : (layout : Layout) → IsLayout layout → IsDivision layout
division layout is = record {
  owner_is_pet = λ s cell. owner_of-pet layout s is cell;
  owned = λ s cell. owned_at layout s is cell;
  by_owner = cells_of-owner layout;
  once = cells_of-once layout;
  adds_up = all_owned-is layout is;
  parts = λ pet in_range. part_of-part layout pet is in_range;
}

-- a cell at a place among those of a PET
pub record IsFound (layout : Layout) (pet k row s : ℕ) : Type 0 where
  pub row_small : row < 2 ^ 20
  pub value : slice_get (cells_of layout pet) k ≡ Some s
  pub owner : owner_of layout s ≡ pet
  pub cell : IsCell layout.grid s
  pub small : s ≤ 2 ^ 20

-- a place that there is has a column
pub part-some_column : (layout : Layout) (pet k : ℕ) (part : Part) → IsPartOf layout pet part → k < length (cells_of layout pet) → 0 < part.columns.length
part-some_column layout pet k part is inside =
    let all = is.cells.count in
    elim (cases_lt 0 part.columns.length) [
      | inl some ↦ some
      | inr none ↦ let w : part.columns.length ≡ 0 = omega arith in let nothing : part.columns.length * part.rows.length ≡ 0 = rw w (omega arith) in omega arith
    ]

-- the cell that division finds
pub part-found : (layout : Layout) (pet k nx : ℕ) (part : Part) → IsLayout layout → IsPartOf layout pet part → k < length (cells_of layout pet) → nx ≡ layout.grid.nx → IsFound layout pet k (part.rows.start + k / part.columns.length) (1 + (part.columns.start + k % part.columns.length) + (part.rows.start + k / part.columns.length) * nx)
part-found layout pet k nx part of_layout is inside same_nx =
    let x = part.columns.start in
    let w = part.columns.length in
    let y = part.rows.start in
    let h = part.rows.length in
    let some = part-some_column layout pet k part is inside in
    let all = is.cells.count in
    let below : k < h * w = omega arith in
    let column = mod_below k w some in
    let row = div_below k w h some below in
    let parts = div-add-mod' k w in
    let place : k % w + k / w * w ≡ k = omega arith in
    let above : y + k / w + 1 - 1 ≡ y + k / w = omega arith in
    let index : part_cell layout.grid part (k % w) (k / w) ≡ 1 + (x + k % w) + (y + k / w) * nx = rw (above, same_nx) (omega arith) in
    let value = ap (slice_get (cells_of layout pet)) (sym place) ∙ is.cells.places (k % w) (k / w) column row ∙ ap Some index in
    let cell = cells_of-cell layout pet k (1 + (x + k % w) + (y + k / w) * nx) value in
    let most = of_layout.grid.cells in
    let last = cell.within in
    let height = is.within.rows in
    let wide = of_layout.grid.columns in
    let rows_fit = mul-le 1 layout.grid.ny layout.grid.nx layout.grid.ny wide (omega arith) in
    record {
      row_small = omega arith;
      value = value;
      owner = cells_of-owner layout pet k (1 + (x + k % w) + (y + k / w) * nx) value;
      cell = cell;
      small = omega arith;
    }

-- the place of a cell among those of its owner
pub record IsPlaced (layout : Layout) (s column row k : ℕ) (part : Part) : Type 0 where
  pub left : part.columns.start ≤ column
  pub above : part.rows.start ≤ row
  pub value : slice_get (cells_of layout (owner_of layout s)) k ≡ Some s
  pub within : k < length (cells_of layout (owner_of layout s))
  pub small : k < 2 ^ 20

-- the place that its column and row in the part give it
pub part-placed : (layout : Layout) (s pet nx : ℕ) (part : Part) → IsLayout layout → IsPartOf layout pet part → pet ≡ owner_of layout s → IsCell layout.grid s → nx ≡ layout.grid.nx → IsPlaced layout s ((s - 1) % nx) ((s - 1) / nx) ((s - 1) % nx - part.columns.start + ((s - 1) / nx - part.rows.start) * part.columns.length) part
part-placed layout s pet nx part of_layout is owner cell same_nx =
    let grid = layout.grid in
    let is' : IsPartOf layout (owner_of layout s) part = subst (λ p. IsPartOf layout p part) owner is in
    let inside = (is'.owned s cell).0 refl in
    let column : (s - 1) % grid.nx + 1 - 1 ≡ (s - 1) % grid.nx = omega arith in
    let row : (s - 1) / grid.nx + 1 - 1 ≡ (s - 1) / grid.nx = omega arith in
    let place_of_code = (s - 1) % grid.nx - part.columns.start + ((s - 1) / grid.nx - part.rows.start) * part.columns.length in
    let place : place_in grid part s ≡ place_of_code = rw (column, row) refl in
    let value = ap (slice_get (cells_of layout (owner_of layout s))) (sym place) ∙ cells_of-at layout (owner_of layout s) s part is' cell inside in
    let within : place_of_code < length (cells_of layout (owner_of layout s)) = slice_get_within _ _ s value in
    let few = is'.few in
    let most = of_layout.grid.cells in
    let left = inside.column.from_start in
    let above = inside.row.from_start in
    rw same_nx (record { left = omega arith; above = omega arith; value = value; within = within; small = omega arith })

-- the owner of a cell, from the blocks that hold its column and its row
pub owner_from : (layout : Layout) (s across down : ℕ) → across ≡ holder (lengths layout.grid.nx layout.px) ((s - 1) % layout.grid.nx) → down ≡ holder (lengths layout.grid.ny layout.py) ((s - 1) / layout.grid.nx) → layout.first_pet + (across + down * layout.px) ≡ owner_of layout s
unfolding owner_of
owner_from layout s across down column row =
    let i : (s - 1) % layout.grid.nx + 1 - 1 ≡ (s - 1) % layout.grid.nx = omega arith in
    let j : (s - 1) / layout.grid.nx + 1 - 1 ≡ (s - 1) / layout.grid.nx = omega arith in
    rw (i, j, column, row) refl
