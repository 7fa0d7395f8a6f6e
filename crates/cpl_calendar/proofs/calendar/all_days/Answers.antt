use Rattle.std.proofs.Common.{sym}
use Rattle.cpl_calendar.proofs.Months.{all_days-Gregorian, all_days-NoLeap, all_days-Day360}
use Rattle.cpl_calendar.proofs.calendar.all_days.Goals as goal

pub returns-in-Gregorian-clause-value : goal.returns-in-Gregorian-clause-value
returns-in-Gregorian-clause-value c = rw c.in-Gregorian.is (sym all_days-Gregorian)

pub returns-in-NoLeap-clause-value : goal.returns-in-NoLeap-clause-value
returns-in-NoLeap-clause-value c = rw c.in-NoLeap.is (sym all_days-NoLeap)

pub returns-in-Day360-clause-value : goal.returns-in-Day360-clause-value
returns-in-Day360-clause-value c = rw c.in-Day360.is (sym all_days-Day360)
