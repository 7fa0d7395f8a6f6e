use Rattle.cpl_block.proofs.RingFacts.{IsNotedUpTo}
use Rattle.cpl_block.proofs.ring.ring_of.Given as goal

-- the places passed are noted
abbrev pub invariant-loop-place : goal.invariant-loop-place
invariant-loop-place l = IsNotedUpTo l.frame l.place l.ring
