use Rattle.std.proofs.Common.{◌≡◌, drop, map}
use Rattle.cpl_sequence.specs.RunEnds.{capped_total, element_ends}
use Rattle.cpl_sequence.proofs.run_ends.+ending.Given as goal

abbrev pub invariant-body_ends-loop-element : goal.invariant-body_ends-loop-element
invariant-body_ends-loop-element l = capped_total l.total (map (element_ends l.counts) (drop l.element-index l.body)) ≡ capped_total 0 (map (element_ends l.counts) l.body)
