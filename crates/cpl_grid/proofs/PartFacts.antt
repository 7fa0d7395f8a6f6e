-- The cells of a part of a grid.
use Rattle.std.proofs.Common.{◌≡◌, ℕ, ◌+◌, ◌-◌, ◌*◌, ◌<◌, Bool, true, filter, length, Some, refl, sym, ap, ◌∙◌, arith}
use Rattle.std.specs.Prelude.{slice_get}
use Rattle.std.specs.List.{range_with_len}
use Rattle.std.proofs.lemmas.List.FromFn.{length-range_with_len}
use Rattle.cpl_grid.specs.Grid.{cells_in, indices}
use Rattle.cpl_grid.specs.Parts.{ListsPart, cells_of_part, part_cell, part_row, whole_part}
use Rattle.cpl_grid.specs.declared.blocks.Part.{Part}
use Rattle.cpl_grid.specs.declared.grid.Grid.{Grid}
use Rattle.cpl_grid.proofs.BoxFacts.{IsBox, filter-box, length-rows, slice_get-rows}
use Rattle.cpl_grid.proofs.RangeFacts.{filter-range_all, slice_get-range}

-- the cells of a row of a part, by their places
slice_get-part_row : (grid : Grid) (part : Part) (i j : ℕ) → i < part.columns.length → slice_get (part_row grid part (0 + j)) i ≡ Some (part_cell grid part i j)
slice_get-part_row grid part i j inside =
    let same : 0 + j ≡ j = omega arith in
    let cell : part_cell grid part 0 j + i ≡ part_cell grid part i j = omega arith in
    rw same (slice_get-range (part_cell grid part 0 j) part.columns.length i inside ∙ ap Some cell)

-- the list of a part's cells has them all, each at its place
pub cells_of_part-lists : (grid : Grid) (part : Part) → ListsPart (cells_of_part grid part) grid part
unfolding cells_of_part
cells_of_part-lists grid part =
    let wide : (j : ℕ) → length (part_row grid part j) ≡ part.columns.length = λ j. length-range_with_len (part_cell grid part 0 j) part.columns.length in
    record {
      count = sym (length-rows (part_row grid part) part.columns.length 0 part.rows.length wide);
      places = λ i j column row. slice_get-rows (part_row grid part) part.columns.length 0 part.rows.length i j (part_cell grid part i j) wide row (slice_get-part_row grid part i j column);
    }

-- the cells of a part are the numbers that pass a test, where these are a box
pub cells_of_part-box : (p : ℕ → Bool) (grid : Grid) (part : Part) → IsBox p grid.nx grid.ny part.columns.start part.columns.length part.rows.start part.rows.length → filter p (indices grid) ≡ cells_of_part grid part
unfolding cells_of_part
cells_of_part-box p grid part box =
    let x = part.columns.start in
    let y = part.rows.start in
    let row : (j : ℕ) → part_row grid part j ≡ range_with_len (1 + (y + j) * grid.nx + x) part.columns.length = λ j.
    let above : y + j + 1 - 1 ≡ y + j = omega arith in
    let first : part_cell grid part 0 j ≡ 1 + (y + j) * grid.nx + x = rw above (omega arith) in
    ap (λ k. range_with_len k part.columns.length) first in
    filter-box p (part_row grid part) grid.nx grid.ny x part.columns.length y part.rows.length box row

-- those of the whole grid are all its cells
pub cells_of_part-whole : (grid : Grid) → cells_of_part grid (whole_part grid) ≡ indices grid
cells_of_part-whole grid =
    let box : IsBox (λ s. true) grid.nx grid.ny 0 grid.nx 0 grid.ny = record {
      columns = omega arith;
      rows = omega arith;
      has = λ i j right before_right below before_below. refl;
      only = λ i j in_row in_column passes. (omega arith, omega arith, omega arith, omega arith);
    } in
    sym (cells_of_part-box (λ s. true) grid (whole_part grid) box) ∙ filter-range_all (λ s. true) 1 (cells_in grid) (λ s from to. refl)
