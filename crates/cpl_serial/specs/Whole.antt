-- A field of a block holds what the world has for it.
use Rattle.std.specs.Prelude.{◌≡◌, ℤ, List, map}
use Rattle.cpl_block.specs.Frames.{values_in}
use Rattle.cpl_block.specs.declared.frame.Frame.{Frame}
use Rattle.cpl_comp.specs.Worlds.{FieldWorld, cell_value}
use Rattle.cpl_grid.specs.Parts.{cells_of_part}

-- the places of a block's cells hold the values that the world has for these cells
abbrev pub HoldsWorld : Frame → List ℤ → FieldWorld → Type 0
HoldsWorld frame field world = values_in frame field ≡ map (cell_value world.values) (cells_of_part frame.grid frame.part)
