use Rattle.cpl_runseq.specs.Remainder.{IsCursorOf}
use Rattle.test_reading.proofs.sequence.follow.Given as goal

-- the cursor is one of the sequence
abbrev pub invariant-operations : goal.invariant-operations
invariant-operations g l = IsCursorOf l.sequence l.cursor
