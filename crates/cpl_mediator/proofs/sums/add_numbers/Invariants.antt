use Rattle.std.proofs.Common.{ℕ, ◌<◌}
use Rattle.std.specs.Int.{w64}
use Rattle.cpl_mediator.specs.Averages.{number_at}
use Rattle.cpl_mediator.proofs.AveragesFacts.{IsAddedUpTo}
use Rattle.cpl_mediator.proofs.sums.add_numbers.Given as goal
use mir.Val.{SFits}

-- the numbers so far are added
abbrev pub invariant-loop-cell : goal.invariant-loop-cell
invariant-loop-cell l = record {
  added : IsAddedUpTo l.initial.sums l.numbers l.sums l.cell;
  fits : (k : ℕ) → k < l.cell → SFits w64 (number_at l.numbers k);
}
