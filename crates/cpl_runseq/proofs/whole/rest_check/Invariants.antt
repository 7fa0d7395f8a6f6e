use Rattle.std.proofs.Common.{◌≡◌, drop}
use Rattle.cpl_runseq.specs.Whole.{rest_check}
use Rattle.cpl_runseq.proofs.whole.rest_check.Given as goal

-- the answer rests on the loops that are left
abbrev pub invariant-loop-l : goal.invariant-loop-l
invariant-loop-l l = rest_check l.rest (drop l.l-index l.loops) ≡ rest_check l.rest l.loops
