use Rattle.std.proofs.Common.{◌<◌, arith}
use Rattle.cpl_calendar.proofs.DateOrder.{date_at-Day360}
use Rattle.cpl_calendar.proofs.Months.{all_days-Day360}
use Rattle.cpl_calendar.proofs.day360.date_of.Goals as goal

pub overflow_cast-result : goal.overflow_cast-result
overflow_cast-result c = omega (arith, all_days-Day360)

pub returns : goal.returns
returns c =
    let few : c.args.number < 3599640 = omega (arith, all_days-Day360) in
    date_at-Day360 c.args.number few
