use Rattle.cpl_build.proofs.ComponentFacts.{needs-listed}
use Rattle.cpl_build.proofs.reading.order_in.Goals as goal

pub order-requires : goal.order-requires
order-requires c = rw (c.as_slice.ensures.value, c.in_ok-needs.ensures) (needs-listed c.args.comps.now c.args.pairs.now c.requires.ends)
