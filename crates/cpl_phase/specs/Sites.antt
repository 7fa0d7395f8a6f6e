-- The cells of a block and their places, as lists.
use Rattle.std.specs.Prelude.{◌≡◌, ℕ, ◌<◌, List, map}
use Rattle.std.specs.List.{All}
use Rattle.cpl_block.specs.Frames.{home_of, places_in, stands_for}
use Rattle.cpl_block.specs.declared.frame.Frame.{Frame}
use Rattle.cpl_grid.specs.Parts.{cells_of_part}
use Rattle.cpl_phase.specs.declared.sites.Sites.{Sites}

-- These cells of a block, and their places.
pub record AreSitesOf (frame : Frame) (cells : List ℕ) (sites : Sites) : Type 0 where
  pub listed : sites.cells.items ≡ cells
  pub homes : sites.homes.items ≡ map (home_of frame) cells
  pub within : All (λ place. place < places_in frame) sites.homes.items
  pub stands : map (stands_for frame) sites.homes.items ≡ cells

-- all cells of a block
abbrev pub AreSites : Frame → Sites → Type 0
AreSites frame sites = AreSitesOf frame (cells_of_part frame.grid frame.part) sites
