use Rattle.std.proofs.Common.{◌≡◌, ◌≤◌, ◌++◌, ◌-◌, ◌+◌, drop, length}
use Rattle.cpl_trace.specs.Steps.{merge_rows}
use Rattle.cpl_trace.proofs.merging.merge_pair.Given as goal

-- the rows so far, and what is left merged, are all
abbrev pub invariant-loop-i : goal.invariant-loop-i
invariant-loop-i l = record {
  left : l.i ≤ length l.left;
  right : l.j ≤ length l.right;
  merged : l.rows.items ++ merge_rows (drop l.i l.left) (drop l.j l.right) ≡ merge_rows l.left l.right;
}

abbrev pub decreases-loop-i : goal.decreases-loop-i
decreases-loop-i l = (length l.left - l.i) + (length l.right - l.j)
