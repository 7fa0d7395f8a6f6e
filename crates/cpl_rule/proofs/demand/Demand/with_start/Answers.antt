use Rattle.cpl_rule.proofs.demand.Demand.with_start.Goals as goal

pub returns-in-Some-clause-least : goal.returns-in-Some-clause-least
returns-in-Some-clause-least c = λ other wider covered. c.with_rule.ensures.least other wider (covered _ c.in-Some.is)
