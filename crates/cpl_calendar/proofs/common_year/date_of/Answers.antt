use Rattle.std.proofs.Common.{◌<◌, ◌+◌, ◌/◌, arith}
use Rattle.cpl_calendar.specs.declared.calendar.Cal.TheVariants.{NoLeap}
use Rattle.cpl_calendar.proofs.DateOrder.{date_at-NoLeap, month_length-le}
use Rattle.cpl_calendar.proofs.Months.{all_days-NoLeap}
use Rattle.cpl_calendar.proofs.common_year.date_of.Goals as goal

pub overflow_cast-result : goal.overflow_cast-result
overflow_cast-result c = omega (arith, all_days-NoLeap)

pub overflow_cast-result-2 : goal.overflow_cast-result-2
overflow_cast-result-2 c =
    let n = c.args.number in
    let month = c.month_at-month.result in
    let few : n < 3649635 = omega (arith, all_days-NoLeap) in
    let found = date_at-NoLeap n month few c.month_at-month.ensures in
    let short = found.date.day_high in
    omega (arith, month_length-le NoLeap (n / 365 + 1) month)

pub returns : goal.returns
returns c =
    let n = c.args.number in
    let few : n < 3649635 = omega (arith, all_days-NoLeap) in
    rw c.start_of.ensures (date_at-NoLeap n c.month_at-month.result few c.month_at-month.ensures)
