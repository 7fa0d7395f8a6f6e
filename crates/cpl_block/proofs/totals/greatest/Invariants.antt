use Rattle.std.proofs.Common.{◌≡◌, fold, pos}
use Rattle.std.specs.Int.{int_max}
use Rattle.std.specs.List.{flat_map}
use Rattle.cpl_grid.specs.Blocks.{numbers_below}
use Rattle.cpl_block.specs.Frames.{first_of, value_at}
use Rattle.cpl_block.specs.Laws.{row_at_places}
use Rattle.cpl_block.proofs.totals.greatest.Given as goal

-- the greatest of the values in the rows passed
abbrev pub invariant-loop-b : goal.invariant-loop-b
invariant-loop-b l =
    l.greatest ≡ fold int_max (value_at l.field (first_of l.frame (pos 0) (pos 0))) (flat_map (row_at_places l.frame l.field) (numbers_below l.b))
