use Rattle.std.proofs.Common.{◌-◌, ◌≤◌}
use Rattle.cpl_calendar.specs.Calendar.{days_before}
use Rattle.cpl_calendar.specs.declared.calendar.Cal.TheVariants.{NoLeap}
use Rattle.cpl_calendar.proofs.common_year.month_at.Given as goal

-- the month before has begun
abbrev pub invariant-loop-month : goal.invariant-loop-month
invariant-loop-month l = days_before NoLeap (l.month - 1) ≤ l.day
