use Rattle.std.proofs.Common.{rules}
use Rattle.test_trace.proofs.OwnFacts.{AreLogs-own}
use Rattle.test_trace.proofs.logs.merged.Goals as goal

pub merge_logs-requires-clause-logs : goal.merge_logs-requires-clause-logs
merge_logs-requires-clause-logs c = AreLogs-own c.args.logs.now (search rules) (search rules) (search rules)
