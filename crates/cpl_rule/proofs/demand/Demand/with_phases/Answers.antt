use Rattle.std.proofs.Common.{arith}
use Rattle.cpl_rule.specs.Demands.{IsPhaseCovered}
use Rattle.cpl_rule.proofs.DemandFacts.{passed-all, passed-at, passed-none, phase-wider}
use Rattle.cpl_rule.proofs.demand.Demand.with_phases.Goals as goal

pub loop-k-init : goal.loop-k-init
loop-k-init c = passed-none IsPhaseCovered (λ a b x. phase-wider a b x) c.args.self c.args.phases.now

pub loop-k-preserved : goal.loop-k-preserved
loop-k-preserved c =
    passed-at IsPhaseCovered (λ a b x. phase-wider a b x) c.args.self c.args.phases.now c.loop-k.k c.index-phases-k.result c.loop-k.demand c.with_phase-demand.result
    c.loop-k.invariant c.loop-k-test.true c.index-phases-k.is c.with_phase-demand.ensures.wider c.with_phase-demand.ensures.covers c.with_phase-demand.ensures.least

pub returns-clause-covers : goal.returns-clause-covers
returns-clause-covers c =
    passed-all IsPhaseCovered (λ a b x. phase-wider a b x) c.args.self c.args.phases.now c.loop-k.k c.loop-k.demand (omega (arith, c.loop-k-test.false)) c.loop-k.invariant
