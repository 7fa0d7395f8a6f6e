use Rattle.std.proofs.Common.{◌≡◌, ◌+◌, ℕ, length, take}
use Rattle.std.specs.List.{list_any}
use Rattle.cpl_grid.specs.Owners.{cells_of}
use Rattle.cpl_smm.specs.Kept.{is_marked}
use Rattle.cpl_smm.specs.Needs.{has_source}
use Rattle.cpl_smm.specs.Rows.{row_at}
use Rattle.cpl_smm.proofs.weights.Weights.need.Given as goal

-- the sources of the cells so far are marked
abbrev pub invariant-loop-k : goal.invariant-loop-k
invariant-loop-k l = record {
  count : length l.marks.items ≡ l.self.src_cells + 1;
  marked : (src : ℕ) → is_marked l.marks.items src ≡ list_any (λ dst. has_source src (row_at l.self dst)) (take l.k (cells_of l.dst l.pet));
}
