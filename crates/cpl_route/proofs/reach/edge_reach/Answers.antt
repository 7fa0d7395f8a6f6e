use Rattle.cpl_route.proofs.ReachFacts.{edge-image}
use Rattle.cpl_route.proofs.reach.edge_reach.Goals as goal

pub returns-clause-image : goal.returns-clause-image
returns-clause-image c =
    edge-image c.args.n c.args.steps c.edge_place-start.result c.edge_place-last.result c.args.block c.requires.row c.if-block-eq0.false
    c.edge_place-start.ensures c.edge_place-last.ensures
