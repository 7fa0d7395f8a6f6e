use Rattle.std.proofs.Common.{◌≡◌, fold, take}
use Rattle.std.specs.Int.{int_min}
use Rattle.cpl_block.proofs.totals.row_least.Given as goal

-- the least of the values passed
abbrev pub invariant-loop-value : goal.invariant-loop-value
invariant-loop-value l = l.least ≡ fold int_min l.so_far (take l.value-index l.row)
