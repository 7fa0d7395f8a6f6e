use Rattle.cpl_sequence.proofs.CursorFacts.{IsSkipping}
use Rattle.cpl_sequence.proofs.cursor.filled_from.Given as goal

abbrev pub invariant-loop-place : goal.invariant-loop-place
invariant-loop-place l = IsSkipping l.tops l.from l.place
