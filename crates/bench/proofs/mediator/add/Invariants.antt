use Rattle.std.proofs.Common.{◌≡◌, length}
use Rattle.bench.proofs.mediator.add.Given as goal

-- the number of cells stays
abbrev pub invariant-loop : goal.invariant-loop
invariant-loop l = length l.values ≡ length l.accum.sums
