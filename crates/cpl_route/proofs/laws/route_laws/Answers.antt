use Rattle.cpl_route.proofs.SharedFacts.{shared-cells}
use Rattle.cpl_route.proofs.laws.route_laws.Goals as goal

pub returns : goal.returns
returns c = shared-cells
