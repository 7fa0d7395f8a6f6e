use Rattle.std.proofs.Common.{subst}
use Rattle.cpl_rule.specs.Demands.{IsArgumentWithin}
use Rattle.cpl_rule.proofs.demand.Demand.with_argument.Goals as goal

pub returns-in-Cell-clause-least : goal.returns-in-Cell-clause-least
returns-in-Cell-clause-least c = λ other wider within. c.with_read.ensures.least other wider (subst (IsArgumentWithin other) c.in-Cell.is within)
