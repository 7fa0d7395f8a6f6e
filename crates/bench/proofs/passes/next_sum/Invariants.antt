use Rattle.cpl_runseq.specs.Remainder.{IsCursorOf}
use Rattle.bench.proofs.passes.next_sum.Given as goal

-- the cursor is one of the sequence
abbrev pub invariant-operations : goal.invariant-operations
invariant-operations l = IsCursorOf l.sequence l.cursor
