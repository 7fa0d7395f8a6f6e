use Rattle.std.proofs.Common.{arith}
use Rattle.cpl_rule.specs.Demands.{IsStartCovered}
use Rattle.cpl_rule.proofs.DemandFacts.{passed-all, passed-at, passed-none, start-wider}
use Rattle.cpl_rule.proofs.demand.Demand.with_starts.Goals as goal

pub loop-k-init : goal.loop-k-init
loop-k-init c = passed-none IsStartCovered (λ a b x. start-wider a b x) c.args.self c.args.fields.now

pub loop-k-preserved : goal.loop-k-preserved
loop-k-preserved c =
    passed-at IsStartCovered (λ a b x. start-wider a b x) c.args.self c.args.fields.now c.loop-k.k c.index-fields-k.result c.loop-k.demand c.with_start-demand.result
    c.loop-k.invariant c.loop-k-test.true c.index-fields-k.is c.with_start-demand.ensures.wider c.with_start-demand.ensures.covers c.with_start-demand.ensures.least

pub returns-clause-covers : goal.returns-clause-covers
returns-clause-covers c =
    passed-all IsStartCovered (λ a b x. start-wider a b x) c.args.self c.args.fields.now c.loop-k.k c.loop-k.demand (omega (arith, c.loop-k-test.false)) c.loop-k.invariant
