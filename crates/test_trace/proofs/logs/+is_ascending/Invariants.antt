use Rattle.std.proofs.Common.{length}
use Rattle.test_trace.proofs.logs.+is_ascending.Given as goal

-- the rows behind the first are fewer
abbrev pub decreases-is_ascending : goal.decreases-is_ascending
decreases-is_ascending l = length l.rows.now
