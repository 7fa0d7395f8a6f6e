use Rattle.std.proofs.Common.{◌≡◌, drop}
use Rattle.cpl_smm.specs.Kept.{least_behind, least_repeat}
use Rattle.cpl_smm.proofs.entries.least_repeat.Given as goal

-- what is left gives the same
abbrev pub invariant-loop-factor : goal.invariant-loop-factor
invariant-loop-factor l = least_behind l.least l.before (drop l.factor-index l.rest) ≡ least_repeat l.factors
