use Rattle.std.proofs.Common.{◌-◌}
use Rattle.cpl_route.specs.Walks.{IsDown}
use Rattle.cpl_route.proofs.walk.push_cells.Given as goal

abbrev pub invariant-loop-row : goal.invariant-loop-row
invariant-loop-row g l =
    IsDown (g.N.Needs.is_needed l.needs) l.nx l.fn.part.columns l.fn.part.rows l.row l.initial.out.items l.out.items

abbrev pub decreases-loop-row : goal.decreases-loop-row
decreases-loop-row g l = l.end - l.row
