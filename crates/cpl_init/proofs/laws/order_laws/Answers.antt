use Rattle.cpl_init.proofs.WaitingFacts.{order-laws}
use Rattle.cpl_init.proofs.laws.order_laws.Goals as goal

pub returns : goal.returns
returns c = order-laws
