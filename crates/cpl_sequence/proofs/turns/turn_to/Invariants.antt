use Rattle.cpl_sequence.proofs.TurnedFrames.{IsTurning}
use Rattle.cpl_sequence.proofs.turns.turn_to.Given as goal

abbrev pub invariant-loop-below : goal.invariant-loop-below
invariant-loop-below l = IsTurning l.fn.frames l.frames l.level l.fn.frame l.below
