use Rattle.std.proofs.Common.{◌≡◌, ℕ, ◌<◌, ◌≤◌, pos}
use Rattle.cpl_base.specs.Rounding.{near_of}
use Rattle.cpl_mediator.specs.Averages.{number_at}
use Rattle.cpl_mediator.proofs.sums.take_averages.Given as goal

-- the cells so far have their averages, and sums of 0; the sums ahead are as they were
abbrev pub invariant-loop-cell : goal.invariant-loop-cell
invariant-loop-cell l = record {
  averages : (k : ℕ) → k < l.cell → number_at l.into k ≡ near_of (number_at l.initial.sums k) (pos l.count);
  zero : (k : ℕ) → k < l.cell → number_at l.sums k ≡ pos 0;
  ahead : (k : ℕ) → l.cell ≤ k → number_at l.sums k ≡ number_at l.initial.sums k;
}
