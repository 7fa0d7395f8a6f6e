use Rattle.cpl_sequence.specs.Marks.{tally_of_top}
use Rattle.cpl_sequence.proofs.MarkFacts.{IsMarking}
use Rattle.cpl_sequence.proofs.marks.marks_of_tops.Given as goal

abbrev pub invariant-loop-top : goal.invariant-loop-top
invariant-loop-top l = IsMarking tally_of_top l.tops l.top-index l.count l.marks
