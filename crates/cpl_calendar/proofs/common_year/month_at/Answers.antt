use Rattle.std.proofs.Common.{◌≡◌, arith}
use Rattle.cpl_calendar.specs.declared.calendar.Cal.TheVariants.{NoLeap}
use Rattle.cpl_calendar.proofs.Months.{days_before-at, days_before-zero}
use Rattle.cpl_calendar.proofs.common_year.month_at.Goals as goal

pub loop-month-init : goal.loop-month-init
loop-month-init c = omega (arith, days_before-zero NoLeap)

pub returns : goal.returns
returns c =
    let last : c.loop-month.month ≡ 12 = omega arith in
    record {
      low = omega arith;
      high = omega arith;
      begun = rw last at c.loop-month.invariant;
      not_over = omega (arith, days_before-at NoLeap 12);
    }
