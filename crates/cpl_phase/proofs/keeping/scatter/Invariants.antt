use Rattle.std.proofs.Common.{◌≡◌, ◌<◌, ℕ, ℤ, map}
use Rattle.std.specs.List.{All}
use Rattle.std.specs.Prelude.{slice_index}
use Rattle.cpl_base.specs.Numbers.{IsValue}
use Rattle.cpl_block.specs.Frames.{value_at}
use Rattle.cpl_phase.proofs.keeping.scatter.Given as goal

-- the places of the cells passed have their values
abbrev pub invariant-loop-k : goal.invariant-loop-k
invariant-loop-k l = record {
  values : All IsValue l.field;
  cells : (value : ℕ → ℤ) → l.cells ≡ map value l.sites.cells.items
      → (j : ℕ) → j < l.k → value_at l.field (slice_index l.sites.homes.items j) ≡ value (slice_index l.sites.cells.items j);
}
