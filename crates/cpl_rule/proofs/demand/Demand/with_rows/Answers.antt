use Rattle.std.proofs.Common.{arith}
use Rattle.cpl_rule.specs.Demands.{IsCovered}
use Rattle.cpl_rule.proofs.DemandFacts.{passed-all, passed-more, passed-none, rule-wider}
use Rattle.cpl_rule.proofs.demand.Demand.with_rows.Goals as goal

pub loop-k-init : goal.loop-k-init
loop-k-init c = passed-none (λ demand row. IsCovered demand row.rule) (λ a b row. rule-wider a b row.rule) c.args.self c.args.rows.now

pub loop-k-preserved : goal.loop-k-preserved
loop-k-preserved c =
    passed-more (λ demand row. IsCovered demand row.rule) (λ a b row. rule-wider a b row.rule) c.args.self c.args.rows.now c.loop-k.k _ c.loop-k.demand c.with_rule-demand.result
    c.loop-k.invariant c.loop-k-test.true c.with_rule-demand.ensures.wider c.with_rule-demand.ensures.covers c.with_rule-demand.ensures.least

pub returns-clause-covers : goal.returns-clause-covers
returns-clause-covers c =
    passed-all (λ demand row. IsCovered demand row.rule) (λ a b row. rule-wider a b row.rule) c.args.self c.args.rows.now c.loop-k.k c.loop-k.demand (omega (arith, c.loop-k-test.false)) c.loop-k.invariant
