use Rattle.std.proofs.Common.{◌≡◌, ◌≤◌, ◌*◌, ◌^◌, take}
use Rattle.cpl_build.specs.Outlines.{value_total}
use Rattle.cpl_build.proofs.realising.value_total.Given as goal

-- those of the components so far
abbrev pub invariant-loop-comp : goal.invariant-loop-comp
invariant-loop-comp l = record {
  value : l.total ≡ value_total (take l.comp-index l.comps);
  bound : l.total ≤ l.comp-index * 2 ^ 26;
}
