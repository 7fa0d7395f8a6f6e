use Rattle.std.proofs.Common.{◌≡◌, map, take}
use Rattle.cpl_script.specs.TraceLengths.{export_counts}
use Rattle.cpl_script.proofs.tracing.export_counts.Given as goal

abbrev pub invariant-loop-comp : goal.invariant-loop-comp
invariant-loop-comp l = l.counts.items ≡ export_counts (take l.comp-index l.comps)
