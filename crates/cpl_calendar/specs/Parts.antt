-- The six numbers of a moment, computed: from the number of its day the year, from the day of the year the month.
use Rattle.std.specs.Prelude.{ℕ, ℤ, unsigned_abs, ◌+◌, ◌-◌, ◌*◌, ◌/◌, ◌%◌, nat_le, nat_lt, if◌then◌else◌, List, [], ◌∷◌}
use Rattle.std.specs.List.{range_with_len}
use Rattle.cpl_calendar.specs.Calendar.{month_length}
use Rattle.cpl_calendar.specs.declared.calendar.Cal.{Cal}
use Rattle.cpl_calendar.specs.declared.calendar.Cal.TheVariants.{Gregorian, NoLeap, Day360}
use Rattle.cpl_calendar.specs.declared.times.Parts.{Parts}

-- the days of the first years of a calendar
abbrev pub days_of_years : Cal → ℕ → ℕ
days_of_years Gregorian years = 365 * years + years / 4 + years / 400 - years / 100
days_of_years NoLeap years = 365 * years
days_of_years Day360 years = 360 * years

-- how many years are over before a day, counted from 0: as many as the mean length of a year says, or one more
abbrev pub years_before : Cal → ℕ → ℕ
years_before cal day =
    let mean = 400 * day / days_of_years cal 400 in
    if nat_le (days_of_years cal (mean + 1)) day then mean + 1 else mean

-- A month of a year and a day of the month.
pub record MonthDay : Type 0 where
  pub month : ℕ
  pub day : ℕ

-- the month and its day when so many days of these months are over
unfoldable pub month_day : Cal → ℕ → List ℕ → ℕ → MonthDay
month_day cal year [] days = record { month = 0; day = 0 }
month_day cal year (month ∷ months) days =
    if nat_lt days (month_length cal year month) then record { month = month; day = days + 1 }
    else month_day cal year months (days - month_length cal year month)

-- the six numbers of a moment
unfoldable pub parts_at : Cal → ℤ → Parts
parts_at cal moment =
    let days = unsigned_abs moment / 86400 in
    let seconds = unsigned_abs moment % 86400 in
    let years = years_before cal days in
    let date = month_day cal (years + 1) (range_with_len 1 12) (days - days_of_years cal years) in
    record {
      year = years + 1;
      month = date.month;
      day = date.day;
      hour = seconds / 3600;
      minute = seconds / 60 % 60;
      second = seconds % 60;
    }
