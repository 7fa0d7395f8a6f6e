use Rattle.std.proofs.Common.{◌≡◌, ◌-◌, filter}
use Rattle.std.specs.List.{range_with_len}
use Rattle.cpl_smm.specs.Kept.{is_marked}
use Rattle.cpl_smm.proofs.marks.marked_cells.Given as goal

-- the marked cells so far
abbrev pub invariant-loop-src : goal.invariant-loop-src
invariant-loop-src l = l.cells.items ≡ filter (is_marked l.marks) (range_with_len 1 (l.src - 1))
