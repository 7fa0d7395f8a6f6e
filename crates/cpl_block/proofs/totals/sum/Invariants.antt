use Rattle.std.proofs.Common.{◌≡◌, ◌*◌, ◌^◌, ◌≤◌}
use Rattle.std.specs.List.{flat_map}
use Rattle.std.specs.Prelude.{unsigned_abs}
use Rattle.cpl_grid.specs.Blocks.{numbers_below}
use Rattle.cpl_block.specs.Laws.{row_at_places}
use Rattle.cpl_block.specs.Totals.{total_of}
use Rattle.cpl_block.proofs.totals.sum.Given as goal

-- the sum of the values in the rows passed
abbrev pub invariant-loop-b : goal.invariant-loop-b
invariant-loop-b l =
    (l.total ≡ total_of (flat_map (row_at_places l.frame l.field) (numbers_below l.b)))
    × (unsigned_abs l.total ≤ l.b * (l.frame.part.columns.length * 2 ^ 63))
