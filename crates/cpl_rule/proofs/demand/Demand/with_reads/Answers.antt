use Rattle.std.proofs.Common.{arith}
use Rattle.cpl_rule.specs.Demands.{IsReadWithin}
use Rattle.cpl_rule.proofs.DemandFacts.{passed-all, passed-more, passed-none, read-wider}
use Rattle.cpl_rule.proofs.demand.Demand.with_reads.Goals as goal

pub loop-k-init : goal.loop-k-init
loop-k-init c = passed-none IsReadWithin (λ a b x. read-wider a b x) c.args.self c.args.reads.now

pub loop-k-preserved : goal.loop-k-preserved
loop-k-preserved c =
    passed-more IsReadWithin (λ a b x. read-wider a b x) c.args.self c.args.reads.now c.loop-k.k _ c.loop-k.demand c.with_read-demand.result
    c.loop-k.invariant c.loop-k-test.true c.with_read-demand.ensures.wider c.with_read-demand.ensures.covers c.with_read-demand.ensures.least

pub returns-clause-covers : goal.returns-clause-covers
returns-clause-covers c =
    passed-all IsReadWithin (λ a b x. read-wider a b x) c.args.self c.args.reads.now c.loop-k.k c.loop-k.demand (omega (arith, c.loop-k-test.false)) c.loop-k.invariant
