use Rattle.std.proofs.Common.{◌≡◌, ◌+◌, ◌++◌, drop}
use Rattle.cpl_smm.specs.Kept.{numbered}
use Rattle.cpl_smm.proofs.entries.numbered.Given as goal

-- the factors so far, and those left
abbrev pub invariant-loop-k : goal.invariant-loop-k
invariant-loop-k l = l.factors.items ++ numbered (l.k + 1) (drop l.k l.dsts) (drop l.k l.entries) ≡ numbered 1 l.dsts l.entries
