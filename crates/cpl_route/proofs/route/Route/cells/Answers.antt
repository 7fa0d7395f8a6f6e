use Rattle.cpl_route.proofs.RouteFacts.{ranks-spans}
use Rattle.cpl_route.proofs.route.Route.cells.Goals as goal

pub range_between-start-requires-clause-rising : goal.range_between-start-requires-clause-rising
range_between-start-requires-clause-rising c =
    rw (c.deref.ensures.value, ranks-spans c.self.inside.spans.items c.self.inside.cells.items) c.self.invariant.ranked.rising
