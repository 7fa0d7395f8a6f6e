use Rattle.std.proofs.Common.{arith}
use Rattle.cpl_route.proofs.ReachFacts.{steady-more}
use Rattle.cpl_route.proofs.reach.Reaches.stretch_end.Goals as goal

pub loop-reach-preserved : goal.loop-reach-preserved
loop-reach-preserved c =
    steady-more c.args.self.now.each c.loop-reach.reach-index c.args.place c.args.limit c.loop-reach.end c.stretch_end-end.result _
    c.loop-reach.invariant (omega arith) c.stretch_end-end.ensures
