use Rattle.cpl_script.specs.OpCursors.{IsOpCursorOf}
use Rattle.test_system.proofs.systems.expect_ops.Given as goal

-- the cursor is one of the system
abbrev pub invariant-loop-k : goal.invariant-loop-k
invariant-loop-k g l = IsOpCursorOf l.system l.cursor
