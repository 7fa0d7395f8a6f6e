-- The code's own steps: dates and the days before them.
use Rattle.std.specs.Prelude.{◌≡◌, ℕ, ◌-◌, ◌<◌, ◌≤◌}
use Rattle.cpl_calendar.specs.Calendar.{IsDate, date_number, days_before}
use Rattle.cpl_calendar.specs.declared.calendar.Cal.{Cal}
use Rattle.cpl_calendar.specs.declared.calendar.Cal.TheVariants.{NoLeap}
use Rattle.cpl_calendar.specs.declared.dates.Date.{Date}

-- A date that a text of the form can write, but of the year 0.
pub record IsSpelledDate (d : Date) : Type 0 where
  pub year_low : 1 ≤ d.year
  pub year_high : d.year ≤ 9999
  pub month_low : 1 ≤ d.month
  pub month_high : d.month ≤ 12
  pub day : d.day ≤ 99

-- The calendar has this date, and so many days lie before it.
pub record IsNumbered (cal : Cal) (number : ℕ) (d : Date) : Type 0 where
  pub date : IsDate cal d.year d.month d.day
  pub number_is : date_number cal d.year d.month d.day ≡ number

-- The month of a common year that has the day, counted from 0.
pub record IsMonthAt (day month : ℕ) : Type 0 where
  pub low : 1 ≤ month
  pub high : month ≤ 12
  pub begun : days_before NoLeap (month - 1) ≤ day
  pub not_over : day < days_before NoLeap month
