use Rattle.std.proofs.Common.{◌≡◌, drop, map}
use Rattle.cpl_sequence.specs.RunEnds.{capped_total, top_ends}
use Rattle.cpl_sequence.proofs.run_ends.run_total.Given as goal

abbrev pub invariant-loop-top : goal.invariant-loop-top
invariant-loop-top l = capped_total l.total (map (top_ends l.counts) (drop l.top-index l.top-items)) ≡ capped_total 0 (map (top_ends l.counts) l.top-items)
