use Rattle.cpl_rule.specs.Demands.{IsArgumentWithin}
use Rattle.cpl_rule.proofs.DemandFacts.{IsPassed}
use Rattle.cpl_rule.proofs.demand.Demand.with_arguments.Given as goal

-- what the members passed come to
abbrev pub invariant-loop-k : goal.invariant-loop-k
invariant-loop-k l = IsPassed (λ demand argument. IsArgumentWithin demand argument) l.fn.self l.k l.arguments l.demand
