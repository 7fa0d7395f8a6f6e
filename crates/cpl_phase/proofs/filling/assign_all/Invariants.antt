use Rattle.std.proofs.Common.{length}
use Rattle.cpl_entry.specs.Books.{entries_of}
use Rattle.cpl_rule.specs.Assigned.{IsAsRoomy}
use Rattle.cpl_phase.specs.Assignments.{AreAssignedTo}
use Rattle.cpl_phase.specs.Refreshed.{AreOnBlock}
use Rattle.cpl_phase.proofs.filling.assign_all.Given as goal

-- the rows passed are carried out
abbrev pub invariant-loop-j : goal.invariant-loop-j
invariant-loop-j g l = record {
  values : AreAssignedTo l.j l.scene (entries_of l.book) l.rows l.fields l.others;
  others : AreOnBlock l.scene.frame (length l.initial.others) l.others;
  room : IsAsRoomy l.initial.room l.room;
}
