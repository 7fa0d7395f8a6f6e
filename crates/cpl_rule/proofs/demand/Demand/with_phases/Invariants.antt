use Rattle.cpl_rule.specs.Demands.{IsPhaseCovered}
use Rattle.cpl_rule.proofs.DemandFacts.{IsPassed}
use Rattle.cpl_rule.proofs.demand.Demand.with_phases.Given as goal

-- what the members passed come to
abbrev pub invariant-loop-k : goal.invariant-loop-k
invariant-loop-k l = IsPassed (λ demand phase. IsPhaseCovered demand phase) l.fn.self l.k l.phases l.demand
