use Rattle.std.proofs.Common.{arith}
use Rattle.cpl_sequence.proofs.TurnedFrames.{turning_all, turning_first, turning_more}
use Rattle.cpl_sequence.proofs.turns.turn_to.Goals as goal

pub loop-below-init : goal.loop-below-init
loop-below-init c = rw c.set.ensures (turning_first c.args.frames.now c.args.level c.args.frame c.requires)

pub set-requires-in-loop-below : goal.set-requires-in-loop-below
set-requires-in-loop-below c = omega (arith, c.loop-below.invariant.many)

pub loop-below-preserved : goal.loop-below-preserved
loop-below-preserved c =
    rw c.set-in-loop-below.ensures
    (turning_more c.args.frames.now c.loop-below.frames c.args.level c.args.frame c.loop-below.below (omega arith) c.loop-below.invariant)

pub returns : goal.returns
returns c = turning_all c.args.frames.now c.loop-below.frames c.args.level c.args.frame c.loop-below.below (omega arith) c.loop-below.invariant
