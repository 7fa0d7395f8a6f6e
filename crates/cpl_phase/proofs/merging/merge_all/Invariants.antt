use Rattle.std.proofs.Common.{length}
use Rattle.cpl_phase.specs.Assignments.{AreMergedTo}
use Rattle.cpl_phase.specs.Refreshed.{AreOnBlock}
use Rattle.cpl_phase.proofs.merging.merge_all.Given as goal

-- the merges passed are carried out
abbrev pub invariant-loop-j : goal.invariant-loop-j
invariant-loop-j l = record {
  values : AreMergedTo l.j l.frame l.rows l.fields l.others;
  others : AreOnBlock l.frame (length l.initial.others) l.others;
}
