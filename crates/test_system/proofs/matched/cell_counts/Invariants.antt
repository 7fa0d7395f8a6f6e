use Rattle.std.proofs.Common.{◌≡◌, take}
use Rattle.cpl_script.specs.Matched.{cell_counts}
use Rattle.test_system.proofs.matched.cell_counts.Given as goal

-- those of the components so far
abbrev pub invariant-loop-comp : goal.invariant-loop-comp
invariant-loop-comp l = l.counts.items ≡ cell_counts (take l.comp-index l.comps)
