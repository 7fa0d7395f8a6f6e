use Rattle.std.proofs.Common.{◌-◌}
use Rattle.cpl_route.specs.Walks.{HasCounted}
use Rattle.cpl_route.proofs.walk.count_row.Given as goal

abbrev pub invariant-loop-column : goal.invariant-loop-column
invariant-loop-column g l = HasCounted (g.N.Needs.is_needed l.needs) l.nx l.fn.columns l.row l.column l.total

abbrev pub decreases-loop-column : goal.decreases-loop-column
decreases-loop-column g l = l.end - l.column
