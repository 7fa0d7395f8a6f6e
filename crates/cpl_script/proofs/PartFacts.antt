-- The part of what is given at each cell is what is given at the cells of the PET.
use Rattle.std.proofs.Common.{◌≡◌, ℕ, ◌+◌, ◌<◌, ◌≤◌, List, arith}
use Rattle.std.specs.Prelude.{ℤ, map, ◌==◌}
use Rattle.std.specs.List.{All}
use Rattle.std.proofs.lemmas.List.Elements.{All-filter}
use Rattle.cpl_comp.proofs.CellFacts.{cells-of_over_cells}
use Rattle.cpl_comp.specs.Worlds.{over_cells}
use Rattle.cpl_grid.proofs.RangeFacts.{All-range}
use Rattle.cpl_grid.specs.Grid.{IsCell, cells_in, indices}
use Rattle.cpl_grid.specs.Owners.{Layout, cells_of, owner_of}
use Rattle.cpl_script.specs.Parts.{values_part}

below_next : (s n : ℕ) → s < 1 + n → s ≤ n
below_next s n to = omega arith

-- what a PET owns are cells of the grid
pub cells_of-cells : (layout : Layout) (pet : ℕ) → All (IsCell layout.grid) (cells_of layout pet)
unfolding cells_of
cells_of-cells layout pet =
    All-filter (λ s. owner_of layout s == pet) (IsCell layout.grid) (indices layout.grid)
    (All-range (IsCell layout.grid) 1 (cells_in layout.grid) (λ s from to. record { from_one = from; within = below_next s (cells_in layout.grid) to }))

-- the part of a list over cells
pub values_part-over_cells : (layout : Layout) (pet : ℕ) (value : ℕ → ℤ) → values_part layout pet (over_cells layout value) ≡ map value (cells_of layout pet)
values_part-over_cells layout pet value = cells-of_over_cells layout value (cells_of layout pet) (cells_of-cells layout pet)
