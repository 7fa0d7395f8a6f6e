use Rattle.std.proofs.Common.{◌-◌}
use Rattle.cpl_route.specs.Walks.{IsAlong}
use Rattle.cpl_route.proofs.walk.push_row.Given as goal

abbrev pub invariant-loop-column : goal.invariant-loop-column
invariant-loop-column g l =
    IsAlong (g.N.Needs.is_needed l.needs) l.nx l.fn.columns l.row l.column l.initial.out.items l.out.items

abbrev pub decreases-loop-column : goal.decreases-loop-column
decreases-loop-column g l = l.end - l.column
