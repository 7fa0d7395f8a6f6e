use Rattle.cpl_entry.specs.Books.{entries_of}
use Rattle.cpl_rule.specs.Assigned.{answers_of}
use Rattle.cpl_serial.specs.Runs.{HasCome, IsCursorAt}
use Rattle.cpl_serial.proofs.running.run_ops.Given as goal

-- the operations passed are carried out, and the cursor gives the next
abbrev pub invariant-loop-k : goal.invariant-loop-k
invariant-loop-k g l =
    HasCome l.system (answers_of (entries_of l.book)) l.trace l.k l.world l.rows.items × IsCursorAt l.system l.k l.cursor
