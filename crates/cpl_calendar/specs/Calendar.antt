-- Three calendars: how long their months are, and how many seconds lie before a date and a time of day.
use Rattle.std.specs.Prelude.{◌≡◌, ℕ, zero, suc, ℤ, pos, ◌+◌, ◌-◌, ◌*◌, ◌/◌, ◌%◌, ◌≤◌, ◌≤ℤ◌, ◌<ℤ◌, Bool, not, ◌&&◌, ◌||◌, ◌==◌, nat_le, if◌then◌else◌, Option, Some, None, Result, Ok, Err}
use Rattle.cpl_calendar.specs.declared.calendar.Cal.{Cal}
use Rattle.cpl_calendar.specs.declared.calendar.Cal.TheVariants.{Gregorian, NoLeap, Day360}
use Rattle.cpl_calendar.specs.declared.times.Parts.{Parts}
use Rattle.cpl_calendar.specs.declared.fault.TimeFault.{TimeFault}
use Rattle.cpl_calendar.specs.declared.fault.TimeFault.TheVariants.{YearRange, NoSuchDay}

-- a leap year: 4 divides it and 100 doesn't, or 400 does
abbrev pub is_leap : ℕ → Bool
is_leap year = ((year % 4 == 0) && not (year % 100 == 0)) || (year % 400 == 0)

-- how many days a month of a common year has
abbrev pub common_length : ℕ → ℕ
common_length month =
    if month == 2 then 28
    else (if (month == 4) || (month == 6) || (month == 9) || (month == 11) then 30 else 31)

-- how many days a month of a year has
abbrev pub month_length : Cal → ℕ → ℕ → ℕ
month_length Gregorian year month =
    if (month == 2) && is_leap year then 29 else common_length month
month_length NoLeap year month = common_length month
month_length Day360 year month = 30

-- the number of a month: January of the year 1 has number 0
abbrev pub month_number : ℕ → ℕ → ℕ
month_number year month = 12 * (year - 1) + (month - 1)

-- how many days the month of a number has
abbrev pub numbered_length : Cal → ℕ → ℕ
numbered_length cal n = month_length cal (n / 12 + 1) (n % 12 + 1)

-- the sum of the lengths of the first n months
unfoldable pub days_before : Cal → ℕ → ℕ
days_before cal zero = 0
days_before cal (suc n) = days_before cal n + numbered_length cal n

-- the days before a date
abbrev pub date_number : Cal → ℕ → ℕ → ℕ → ℕ
date_number cal year month day = days_before cal (month_number year month) + (day - 1)

-- the seconds before a date and a time of day
abbrev pub moment_of : Cal → Parts → ℕ
moment_of cal p =
    86400 * date_number cal p.year p.month p.day + 3600 * p.hour + 60 * p.minute + p.second

-- the seconds of all the years that a calendar has, 1 to 9999
abbrev pub end_of_time : Cal → ℕ
end_of_time cal = 86400 * days_before cal (12 * 9999)

-- a moment of the calendar
pub record InTime (cal : Cal) (moment : ℤ) : Type 0 where
  pub begun : pos 0 ≤ℤ moment
  pub not_over : moment <ℤ pos (end_of_time cal)

-- The calendar has this date.
pub record IsDate (cal : Cal) (year month day : ℕ) : Type 0 where
  pub year_low : 1 ≤ year
  pub year_high : year ≤ 9999
  pub month_low : 1 ≤ month
  pub month_high : month ≤ 12
  pub day_low : 1 ≤ day
  pub day_high : day ≤ month_length cal year month

-- The calendar has this date, and a day has this time.
pub record IsTime (cal : Cal) (p : Parts) : Type 0 where
  pub date : IsDate cal p.year p.month p.day
  pub hour : p.hour ≤ 23
  pub minute : p.minute ≤ 59
  pub second : p.second ≤ 59

-- A time of the calendar with so many seconds before it.
pub record IsTimeAt (cal : Cal) (seconds : ℕ) (p : Parts) : Type 0 where
  pub is_time : IsTime cal p
  pub moment_is : moment_of cal p ≡ seconds

-- whether the month of a year has such a day
abbrev pub has_day : Cal → ℕ → ℕ → ℕ → Bool
has_day cal year month day = nat_le 1 day && nat_le day (month_length cal year month)

-- the days before a date, if the month has that day
abbrev pub number_if_any : Cal → ℕ → ℕ → ℕ → Option ℕ
number_if_any cal year month day =
    if has_day cal year month day then Some (date_number cal year month day) else None

-- the moment of a date and a time of day, or why the calendar has none
abbrev pub moment_or_fault : Cal → Parts → Result ℤ TimeFault
moment_or_fault cal p =
    if p.year == 0 then Err YearRange
    else (if has_day cal p.year p.month p.day then Ok (pos (moment_of cal p)) else Err NoSuchDay)
