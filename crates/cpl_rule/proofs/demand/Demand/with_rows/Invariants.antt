use Rattle.cpl_rule.specs.Demands.{IsCovered}
use Rattle.cpl_rule.proofs.DemandFacts.{IsPassed}
use Rattle.cpl_rule.proofs.demand.Demand.with_rows.Given as goal

-- what the members passed come to
abbrev pub invariant-loop-k : goal.invariant-loop-k
invariant-loop-k l = IsPassed (λ demand row. IsCovered demand row.rule) l.fn.self l.k l.rows l.demand
