use Rattle.std.proofs.Common.{take}
use Rattle.cpl_route.specs.Reach.{AreSteady}
use Rattle.cpl_route.proofs.reach.Reaches.stretch_end.Given as goal

abbrev pub invariant-loop-reach : goal.invariant-loop-reach
invariant-loop-reach l = AreSteady (take l.reach-index l.self.each) l.place l.limit l.end
