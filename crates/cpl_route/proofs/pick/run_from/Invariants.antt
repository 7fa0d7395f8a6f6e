use Rattle.cpl_route.specs.Picks.{IsRun}
use Rattle.cpl_route.proofs.pick.run_from.Given as goal

abbrev pub invariant-loop-at : goal.invariant-loop-at
invariant-loop-at l = IsRun l.cells l.first l.most l.run
