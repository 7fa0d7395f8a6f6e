-- On a block that is a whole grid, what is found and summed over the block is found and summed over the grid.
use Rattle.std.proofs.Common.{◌≡◌, ℕ, List, [], ◌∷◌, ℤ, pos, ◌+ℤ◌, map, fold, refl, sym, ap, ◌∙◌}
use Rattle.std.specs.List.{flat_map}
use Rattle.std.proofs.Math.IntN.{+ℤ_assoc, +ℤ_idl, +ℤ_idr}
use Rattle.cpl_block.specs.Frames.{values_in}
use Rattle.cpl_block.specs.Laws.{IsAlone}
use Rattle.cpl_block.specs.Totals as block
use Rattle.cpl_block.specs.declared.frame.Frame.{Frame}
use Rattle.cpl_comp.specs.RunFaults.{cell_faults, range_faults}
use Rattle.cpl_comp.specs.Worlds.{FieldWorld, active_cells, cell_value, over_cells}
use Rattle.cpl_comp.specs.declared.component.RangeRow.{RangeRow}
use Rattle.cpl_grid.specs.Grid.{indices}
use Rattle.cpl_grid.specs.Owners.{Layout}
use Rattle.cpl_grid.specs.Parts.{cells_of_part}
use Rattle.cpl_script.specs.SerialRun.{active_values, greatest_of, least_of, sum_of}

-- ---- totals of numbers

sum-from : (z : ℤ) (xs : List ℤ) → fold ◌+ℤ◌ z xs ≡ z +ℤ sum_of xs
sum-from z [] = sym (+ℤ_idr z)
sum-from z (x ∷ xs) = sum-from (z +ℤ x) xs ∙ +ℤ_assoc z x (sum_of xs)

-- a sum from the left is one from the right
pub total-sum : (xs : List ℤ) → block.total_of xs ≡ sum_of xs
total-sum xs = sum-from (pos 0) xs ∙ +ℤ_idl (sum_of xs)

-- the least of numbers in the words of blocks
pub least-same : (xs : List ℤ) → block.least_of xs ≡ least_of xs
least-same [] = refl
least-same (x ∷ xs) = refl

-- the greatest of numbers in the words of blocks
pub greatest-same : (xs : List ℤ) → block.greatest_of xs ≡ greatest_of xs
greatest-same [] = refl
greatest-same (x ∷ xs) = refl

-- ---- a whole grid

module _ (frame : Frame) (layout : Layout) (alone : IsAlone frame) (same : frame.grid ≡ layout.grid) where
  whole-indices : cells_of_part frame.grid frame.part ≡ indices layout.grid
  whole-indices = alone.cells ∙ ap indices same

  -- the block's cells are all that take part
  pub whole-cells : cells_of_part frame.grid frame.part ≡ active_cells layout
  unfolding active_cells
  whole-cells = whole-indices

  -- ranges checked at the block's cells are checked at all
  pub whole-ranges : (after : List FieldWorld) (rows : List RangeRow)
      → flat_map (cell_faults after rows) (cells_of_part frame.grid frame.part) ≡ range_faults layout after rows
  whole-ranges after rows = ap (flat_map (cell_faults after rows)) whole-cells

  -- values at the block's cells are those over all
  pub whole-over_cells : (value : ℕ → ℤ) → map value (cells_of_part frame.grid frame.part) ≡ over_cells layout value
  unfolding over_cells
  whole-over_cells value = ap (map value) whole-indices

  -- and so are those of a field
  pub whole-active : (values : List ℤ) → map (cell_value values) (cells_of_part frame.grid frame.part) ≡ active_values layout values
  whole-active values = ap (map (cell_value values)) whole-cells

  -- the block's sum is that over all cells
  pub whole-sum : (field values : List ℤ) → values_in frame field ≡ map (cell_value values) (cells_of_part frame.grid frame.part)
      → block.total_of (values_in frame field) ≡ sum_of (active_values layout values)
  whole-sum field values held = ap block.total_of (held ∙ whole-active values) ∙ total-sum (active_values layout values)

  -- the block's least value is that over all cells
  pub whole-least : (field values : List ℤ) → values_in frame field ≡ map (cell_value values) (cells_of_part frame.grid frame.part)
      → block.least_of (values_in frame field) ≡ least_of (active_values layout values)
  whole-least field values held = ap block.least_of (held ∙ whole-active values) ∙ least-same (active_values layout values)

  -- the block's greatest value is that over all cells
  pub whole-greatest : (field values : List ℤ) → values_in frame field ≡ map (cell_value values) (cells_of_part frame.grid frame.part)
      → block.greatest_of (values_in frame field) ≡ greatest_of (active_values layout values)
  whole-greatest field values held = ap block.greatest_of (held ∙ whole-active values) ∙ greatest-same (active_values layout values)
