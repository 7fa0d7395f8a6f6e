use Rattle.std.proofs.Common.{length}
use Rattle.cpl_entry.specs.Books.{entries_of}
use Rattle.cpl_rule.specs.Assigned.{IsAsRoomy}
use Rattle.cpl_phase.specs.Assignments.{AreAssignedTo}
use Rattle.cpl_phase.specs.Refreshed.{AreOnBlock}
use Rattle.cpl_phase.specs.Starts.{rows_started}
use Rattle.cpl_phase.proofs.starting.assign_started.Given as goal

-- the start rules passed have their values
abbrev pub invariant-loop-j : goal.invariant-loop-j
invariant-loop-j g l = record {
  assigned : AreAssignedTo l.j l.scene (entries_of l.book) (rows_started l.described) l.fields l.others;
  others : AreOnBlock l.scene.frame (length l.initial.others) l.others;
  room : IsAsRoomy l.initial.room l.room;
}
