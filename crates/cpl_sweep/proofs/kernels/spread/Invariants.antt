use Rattle.std.proofs.Common.{◌≡◌, ℕ, ◌<◌}
use Rattle.cpl_sweep.specs.Kernels.{number_at}
use Rattle.cpl_sweep.proofs.kernels.spread.Given as goal

-- the places passed hold the number
abbrev pub invariant-loop-k : goal.invariant-loop-k
invariant-loop-k l = (k : ℕ) → k < l.k → number_at l.these k ≡ l.number
