use Rattle.std.proofs.Common.{◌++◌, List, ℕ}
use Rattle.std.specs.List.{range_with_len}
use Rattle.cpl_grid.specs.Parts.{part_cell}
use Rattle.cpl_phase.specs.Sites.{AreSitesOf}
use Rattle.cpl_phase.proofs.sites.note_row.Given as goal

-- the cells passed are noted behind whatever was noted
abbrev pub invariant-loop-a : goal.invariant-loop-a
invariant-loop-a l =
    (cells : List ℕ) → AreSitesOf l.frame cells l.initial.sites
    → AreSitesOf l.frame (cells ++ range_with_len (part_cell l.frame.grid l.frame.part 0 l.b) l.a) l.sites
