use Rattle.std.proofs.Common.{ap, ◌∙◌}
use Rattle.cpl_route.specs.Routes.{ends_of}
use Rattle.cpl_route.proofs.RouteFacts.{legs-ranked, pairs-ends}
use Rattle.cpl_route.proofs.route.Route.pairs.Goals as goal

pub returns-clause-value : goal.returns-clause-value
returns-clause-value c =
    c.as_slice.ensures.value ∙ c.self.invariant.ends ∙ pairs-ends c.self.inside.spans.items c.self.inside.cells.items ∙ ap ends_of c.self.view_is

pub returns-clause-legs : goal.returns-clause-legs
returns-clause-legs c = legs-ranked _ (rw c.self.view_is at c.self.invariant.ranked)
