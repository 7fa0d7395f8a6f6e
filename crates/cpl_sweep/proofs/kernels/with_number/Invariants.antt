use Rattle.cpl_sweep.specs.Kernels.{number_at}
use Rattle.cpl_sweep.proofs.KernelsFacts.{IsMadeUpTo}
use Rattle.cpl_sweep.proofs.kernels.with_number.Given as goal

-- the values so far are made
abbrev pub invariant-loop-k : goal.invariant-loop-k
invariant-loop-k g l = IsMadeUpTo l.k (λ k. g.J.Join.joins l.by (number_at l.initial.these k) l.number) l.initial.these l.these
