use Rattle.std.proofs.Common.{◌≡◌, map, take}
use Rattle.cpl_smm.specs.Kept.{dst_of}
use Rattle.cpl_smm.proofs.columns.fill_dsts.Given as goal

-- the cells so far
abbrev pub invariant-loop-factor : goal.invariant-loop-factor
invariant-loop-factor l = l.dsts.items ≡ map dst_of (take l.factor-index l.factors)
