use Rattle.cpl_sequence.specs.Marks.{tally_of}
use Rattle.cpl_sequence.proofs.MarkFacts.{IsMarking}
use Rattle.cpl_sequence.proofs.marks.+marking.Given as goal

abbrev pub invariant-body_marks-loop-element : goal.invariant-body_marks-loop-element
invariant-body_marks-loop-element l = IsMarking (λ element. tally_of element l.step) l.body l.element-index l.count l.marks
