use Rattle.std.proofs.Common.{◌≡◌, take}
use Rattle.cpl_mediator.specs.Merges.{sum_of_products}
use Rattle.cpl_mediator.proofs.merging.merge.Given as goal

-- the terms so far
abbrev pub invariant-loop-value : goal.invariant-loop-value
invariant-loop-value l = l.sum ≡ sum_of_products (take l.value-index l.terms)
