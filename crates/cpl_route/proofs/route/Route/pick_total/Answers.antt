use Rattle.cpl_route.proofs.PickFacts.{pickers-few}
use Rattle.cpl_route.proofs.route.Route.pick_total.Goals as goal

pub total_of-requires-clause-few : goal.total_of-requires-clause-few
total_of-requires-clause-few c = pickers-few c.pick_of.result.needs.now
