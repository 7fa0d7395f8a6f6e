use Rattle.cpl_init.proofs.WaitingFacts.{gives-order, gives-waiting}
use Rattle.cpl_init.proofs.ordering.order.Goals as goal

pub returns-clause-order : goal.returns-clause-order
returns-clause-order c = gives-order c.args.components c.args.needs.now c.order_by_rounds.result c.requires c.order_by_rounds.ensures

pub returns-clause-waiting : goal.returns-clause-waiting
returns-clause-waiting c = gives-waiting c.args.components c.args.needs.now c.order_by_rounds.result c.requires c.order_by_rounds.ensures
