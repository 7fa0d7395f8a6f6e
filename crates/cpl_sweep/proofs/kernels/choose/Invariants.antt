use Rattle.cpl_formula.specs.Tree.{choice_of}
use Rattle.cpl_sweep.specs.Kernels.{number_at}
use Rattle.cpl_sweep.proofs.KernelsFacts.{IsMadeUpTo}
use Rattle.cpl_sweep.proofs.kernels.choose.Given as goal

-- the values so far are made
abbrev pub invariant-loop-k : goal.invariant-loop-k
invariant-loop-k l = IsMadeUpTo l.k (λ k. choice_of (number_at l.initial.these k) (number_at l.ones k) (number_at l.others k)) l.initial.these l.these
