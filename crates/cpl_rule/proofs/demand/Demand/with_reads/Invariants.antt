use Rattle.cpl_rule.specs.Demands.{IsReadWithin}
use Rattle.cpl_rule.proofs.DemandFacts.{IsPassed}
use Rattle.cpl_rule.proofs.demand.Demand.with_reads.Given as goal

-- what the members passed come to
abbrev pub invariant-loop-k : goal.invariant-loop-k
invariant-loop-k l = IsPassed (λ demand read. IsReadWithin demand read) l.fn.self l.k l.reads l.demand
