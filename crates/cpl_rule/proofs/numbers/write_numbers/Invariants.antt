use Rattle.std.proofs.Common.{pos}
use Rattle.cpl_comp.specs.Readings.{whole}
use Rattle.cpl_grid.specs.Grid.{column_of, row_of}
use Rattle.cpl_rule.proofs.NumberedFacts.{IsNumberedUpTo}
use Rattle.cpl_rule.proofs.numbers.write_numbers.Given as goal

-- the places passed hold the numbers of their cells
abbrev pub invariant-loop-place : goal.invariant-loop-place
invariant-loop-place l = record {
  columns : IsNumberedUpTo l.place l.frame (λ s. whole (pos (column_of l.frame.grid s))) l.columns;
  rows : IsNumberedUpTo l.place l.frame (λ s. whole (pos (row_of l.frame.grid s))) l.rows;
  cells : IsNumberedUpTo l.place l.frame (λ s. whole (pos s)) l.cells;
}
