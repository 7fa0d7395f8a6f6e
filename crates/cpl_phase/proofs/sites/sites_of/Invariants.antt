use Rattle.std.specs.List.{flat_map}
use Rattle.cpl_grid.specs.Blocks.{numbers_below}
use Rattle.cpl_grid.specs.Parts.{part_row}
use Rattle.cpl_phase.specs.Sites.{AreSitesOf}
use Rattle.cpl_phase.proofs.sites.sites_of.Given as goal

-- the rows passed are noted
abbrev pub invariant-loop-b : goal.invariant-loop-b
invariant-loop-b l = AreSitesOf l.frame (flat_map (part_row l.frame.grid l.frame.part) (numbers_below l.b)) l.sites
