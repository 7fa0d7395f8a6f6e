use Rattle.cpl_rule.proofs.DemandLaws.{demand-near}
use Rattle.cpl_phase.proofs.opening.near_demand.Goals as goal

pub returns-clause-across : goal.returns-clause-across
returns-clause-across c =
    (demand-near c.requires.limits c.args.comp.now c.demand_of.result c.requires.is c.demand_of.ensures.covers c.demand_of.ensures.least).0

pub returns-clause-down : goal.returns-clause-down
returns-clause-down c =
    (demand-near c.requires.limits c.args.comp.now c.demand_of.result c.requires.is c.demand_of.ensures.covers c.demand_of.ensures.least).1
