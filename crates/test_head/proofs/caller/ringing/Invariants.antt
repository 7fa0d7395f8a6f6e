use Rattle.std.proofs.Common.{◌≤◌}
use Rattle.test_head.proofs.caller.ringing.Given as goal

-- no more ring than there are
abbrev pub invariant-loop-alarm : goal.invariant-loop-alarm
invariant-loop-alarm l = l.count ≤ l.alarm-index
