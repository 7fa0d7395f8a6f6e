use Rattle.std.proofs.Common.{◌≡◌, fold, take}
use Rattle.std.specs.Int.{int_max}
use Rattle.cpl_block.proofs.totals.row_greatest.Given as goal

-- the greatest of the values passed
abbrev pub invariant-loop-value : goal.invariant-loop-value
invariant-loop-value l = l.greatest ≡ fold int_max l.so_far (take l.value-index l.row)
