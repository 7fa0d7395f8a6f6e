use Rattle.std.proofs.Common.{◌≡◌, drop}
use Rattle.cpl_runseq.specs.Whole.{durations_check}
use Rattle.cpl_runseq.proofs.whole.durations_check.Given as goal

-- the answer rests on the loops that are left
abbrev pub invariant-loop-i : goal.invariant-loop-i
invariant-loop-i l = durations_check l.span (drop l.i l.loops) ≡ durations_check l.span l.loops
