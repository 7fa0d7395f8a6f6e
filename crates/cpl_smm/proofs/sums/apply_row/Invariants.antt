use Rattle.std.proofs.Common.{◌≡◌, ◌*◌, ◌≤◌, ◌+ℤ◌, drop, unsigned_abs}
use Rattle.cpl_smm.specs.Sums.{row_sum}
use Rattle.cpl_smm.proofs.sums.apply_row.Given as goal

-- the sum so far and that of what is left, and how great the sum may be
abbrev pub invariant-loop-k : goal.invariant-loop-k
invariant-loop-k l = record {
  sum : l.sum +ℤ row_sum (drop l.k l.row) (drop l.k l.values) ≡ row_sum l.row l.values;
  within : unsigned_abs l.sum ≤ l.k * 1000000000000000000000000000;
}
