use Rattle.std.proofs.Common.{◌≡◌, map, take}
use Rattle.cpl_smm.specs.Kept.{entry_of}
use Rattle.cpl_smm.proofs.columns.fill_entries.Given as goal

-- the entries so far
abbrev pub invariant-loop-factor : goal.invariant-loop-factor
invariant-loop-factor l = l.entries.items ≡ map entry_of (take l.factor-index l.factors)
