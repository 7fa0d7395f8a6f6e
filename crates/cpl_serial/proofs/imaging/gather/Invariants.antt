use Rattle.cpl_serial.specs.Images.{IsGatheredTo}
use Rattle.cpl_serial.proofs.imaging.gather.Given as goal

-- the entries so far are gathered
abbrev pub invariant-loop-k : goal.invariant-loop-k
invariant-loop-k l = IsGatheredTo l.k l.row l.source l.initial.gathered l.gathered
