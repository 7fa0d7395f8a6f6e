use Rattle.std.proofs.Common.{arith, refl}
use Rattle.cpl_route.proofs.ReachFacts.{ring-image}
use Rattle.cpl_route.proofs.reach.ring_reach.Goals as goal

pub returns-clause-image : goal.returns-clause-image
returns-clause-image c =
    ring-image c.args.n c.args.steps _ c.min-length.result c.args.block c.requires.ring (omega arith) refl c.min-length.ensures
