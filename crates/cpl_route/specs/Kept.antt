-- What is kept of decomposed grids. The steps of the code, not needed to read what the calls promise.
use Rattle.std.specs.Prelude.{◌≡◌, ℕ, ◌+◌, ◌<◌, List, length, get_or}
use Rattle.cpl_grid.specs.Grid.{IsGrid, cells_in}
use Rattle.cpl_grid.specs.Owners.{IsLayout, IsPartOf, Layout, part_of, pets_in}
use Rattle.cpl_grid.specs.declared.blocks.Part.{Part}
use Rattle.cpl_grid.specs.declared.grid.Grid.{Grid}
use Rattle.cpl_route.specs.declared.parts.Parts.{Parts}

-- the parts of the first PETs, by their places among all, in a list with room for all
pub record HasPartsTo (layout : Layout) (list : List Part) (count : ℕ) : Type 0 where
  pub room : length list ≡ 64
  pub each : (k : ℕ) (other : Part) → k < count → get_or list k other ≡ part_of layout (layout.first_pet + k)

-- the parts of all PETs
abbrev pub HasParts : Layout → Parts → Type 0
HasParts layout parts = HasPartsTo layout parts.list (pets_in layout)

-- what a PET owns of a grid, asked for from a grid of as many cells
pub record IsOwned (dst : Layout) (to : ℕ) (part : Part) (grid : Grid) : Type 0 where
  pub layout : IsLayout dst
  pub is_part : IsPartOf dst to part
  pub is_grid : IsGrid grid
  pub cells : cells_in grid ≡ cells_in dst.grid

-- a redistribution between grids of equal numbers of cells
pub record IsRedist (src dst : Layout) (owners receivers : Parts) : Type 0 where
  pub from : HasParts src owners
  pub to : HasParts dst receivers
  pub cells : cells_in src.grid ≡ cells_in dst.grid
