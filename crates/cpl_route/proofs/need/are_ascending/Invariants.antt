use Rattle.std.proofs.Common.{◌≡◌, drop}
use Rattle.cpl_route.specs.Routes.{are_ascending_from}
use Rattle.cpl_route.proofs.need.are_ascending.Given as goal

abbrev pub invariant-loop-need : goal.invariant-loop-need
invariant-loop-need l = are_ascending_from l.free (drop l.need-index l.needs) ≡ are_ascending_from 0 l.needs
