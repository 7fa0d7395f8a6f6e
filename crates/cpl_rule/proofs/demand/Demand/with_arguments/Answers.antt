use Rattle.std.proofs.Common.{arith}
use Rattle.cpl_rule.specs.Demands.{IsArgumentWithin}
use Rattle.cpl_rule.proofs.DemandFacts.{passed-all, passed-more, passed-none, argument-wider}
use Rattle.cpl_rule.proofs.demand.Demand.with_arguments.Goals as goal

pub loop-k-init : goal.loop-k-init
loop-k-init c = passed-none IsArgumentWithin (λ a b x. argument-wider a b x) c.args.self c.args.arguments.now

pub loop-k-preserved : goal.loop-k-preserved
loop-k-preserved c =
    passed-more IsArgumentWithin (λ a b x. argument-wider a b x) c.args.self c.args.arguments.now c.loop-k.k _ c.loop-k.demand c.with_argument-demand.result
    c.loop-k.invariant c.loop-k-test.true c.with_argument-demand.ensures.wider c.with_argument-demand.ensures.covers c.with_argument-demand.ensures.least

pub returns-clause-covers : goal.returns-clause-covers
returns-clause-covers c =
    passed-all IsArgumentWithin (λ a b x. argument-wider a b x) c.args.self c.args.arguments.now c.loop-k.k c.loop-k.demand (omega (arith, c.loop-k-test.false)) c.loop-k.invariant
