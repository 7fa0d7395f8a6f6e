use Rattle.std.proofs.Common.{arith}
use Rattle.cpl_calendar.proofs.Months.{all_days_le}
use Rattle.cpl_calendar.proofs.moments.parts_after.Goals as goal

pub overflow_cast-seconds : goal.overflow_cast-seconds
overflow_cast-seconds c = omega (arith, all_days_le c.args.cal)
