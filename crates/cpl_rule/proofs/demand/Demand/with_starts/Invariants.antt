use Rattle.cpl_rule.specs.Demands.{IsStartCovered}
use Rattle.cpl_rule.proofs.DemandFacts.{IsPassed}
use Rattle.cpl_rule.proofs.demand.Demand.with_starts.Given as goal

-- what the members passed come to
abbrev pub invariant-loop-k : goal.invariant-loop-k
invariant-loop-k l = IsPassed (λ demand field. IsStartCovered demand field) l.fn.self l.k l.fields l.demand
