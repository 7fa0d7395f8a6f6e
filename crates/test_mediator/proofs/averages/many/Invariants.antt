use Rattle.std.proofs.Common.{◌≡◌, length}
use Rattle.test_mediator.proofs.averages.many.Given as goal

-- there are two cells
abbrev pub invariant-loop-place : goal.invariant-loop-place
invariant-loop-place g l = length l.accum.sums ≡ 2

abbrev pub invariant-keep : goal.invariant-keep
invariant-keep g l = length l.accum.sums ≡ 2
