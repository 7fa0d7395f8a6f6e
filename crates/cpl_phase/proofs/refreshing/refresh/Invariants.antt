use Rattle.std.proofs.Common.{length}
use Rattle.cpl_phase.specs.Refreshed.{AreOnBlock, AreRefilledTo}
use Rattle.cpl_phase.proofs.refreshing.refresh.Given as goal

-- the fields passed are filled
abbrev pub invariant-loop-j : goal.invariant-loop-j
invariant-loop-j l = record {
  fields : AreOnBlock l.frame (length l.initial.fields) l.fields;
  filled : AreRefilledTo l.j l.frame l.halo l.initial.fields l.fields;
}
