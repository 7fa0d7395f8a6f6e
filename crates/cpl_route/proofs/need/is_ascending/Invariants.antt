use Rattle.std.proofs.Common.{◌≡◌, drop}
use Rattle.cpl_route.specs.Routes.{is_ascending}
use Rattle.cpl_route.proofs.need.is_ascending.Given as goal

abbrev pub invariant-loop-cell : goal.invariant-loop-cell
invariant-loop-cell l = is_ascending l.least (drop l.cell-index l.cells) ≡ is_ascending 0 l.cells
