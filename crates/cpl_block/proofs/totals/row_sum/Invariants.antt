use Rattle.std.proofs.Common.{◌≡◌, ◌+◌, ◌*◌, ◌^◌, ◌≤◌, ◌+ℤ◌, fold, take}
use Rattle.std.specs.Prelude.{unsigned_abs}
use Rattle.cpl_block.proofs.totals.row_sum.Given as goal

-- the sum of the number and the values passed
abbrev pub invariant-loop-value : goal.invariant-loop-value
invariant-loop-value l =
    (l.total ≡ fold ◌+ℤ◌ l.so_far (take l.value-index l.row))
    × (unsigned_abs l.total ≤ unsigned_abs l.so_far + l.value-index * 2 ^ 63)
