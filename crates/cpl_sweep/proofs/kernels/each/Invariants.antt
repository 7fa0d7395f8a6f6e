use Rattle.cpl_sweep.specs.Kernels.{number_at}
use Rattle.cpl_sweep.proofs.KernelsFacts.{IsMadeUpTo}
use Rattle.cpl_sweep.proofs.kernels.each.Given as goal

-- the values so far are made
abbrev pub invariant-loop-k : goal.invariant-loop-k
invariant-loop-k g l = IsMadeUpTo l.k (λ k. g.S.Step.makes l.by (number_at l.initial.these k)) l.initial.these l.these
