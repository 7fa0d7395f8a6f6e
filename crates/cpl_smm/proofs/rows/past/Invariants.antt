use Rattle.std.proofs.Common.{◌≡◌, ◌+◌, drop}
use Rattle.cpl_smm.specs.Kept.{count_upto}
use Rattle.cpl_smm.proofs.rows.past.Given as goal

-- what is left counts on
abbrev pub invariant-loop-place : goal.invariant-loop-place
invariant-loop-place l = l.fn.from + count_upto l.dst (drop l.fn.from l.dsts) ≡ l.place + count_upto l.dst (drop l.place l.dsts)
