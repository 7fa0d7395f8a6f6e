use Rattle.std.proofs.Common.{◌≡◌, drop}
use Rattle.cpl_smm.specs.Kept.{ascend_from}
use Rattle.cpl_smm.proofs.columns.are_ascending.Given as goal

-- what is left gives the same
abbrev pub invariant-loop-k : goal.invariant-loop-k
invariant-loop-k l = ascend_from l.before (drop l.k l.dsts) (drop l.k l.entries) ≡ ascend_from 0 l.dsts l.entries
