use Rattle.std.proofs.Common.{◌≡◌, length}
use Rattle.bench.proofs.mediator.averages.Given as goal

-- the number of cells stays
abbrev pub invariant-loop : goal.invariant-loop
invariant-loop g l = record {
  values : length l.values ≡ length l.accum.sums;
  into : length l.into ≡ length l.accum.sums;
}
