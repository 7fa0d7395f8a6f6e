use Rattle.cpl_block.proofs.AimFacts.{IsAimedUpTo}
use Rattle.cpl_block.proofs.aim.aim_of.Given as goal

-- the places passed are noted
abbrev pub invariant-loop-place : goal.invariant-loop-place
invariant-loop-place l = IsAimedUpTo l.frame l.cells l.place l.aim
