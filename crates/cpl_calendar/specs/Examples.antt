-- The definitions of calendars, of the parts of moments and of the texts of times, evaluated on examples.
use Rattle.std.specs.Prelude.{◌≡◌, ℕ, pos, codes, Ok, Err, List, [], ◌∷◌, map}
use Rattle.cpl_calendar.specs.Calendar.{days_before, month_number, month_length, end_of_time}
use Rattle.cpl_calendar.specs.Parts.{days_of_years, parts_at, years_before}
use Rattle.cpl_calendar.specs.Texts.{read_time, text_of_parts}
use Rattle.cpl_calendar.specs.declared.calendar.Cal.TheVariants.{Gregorian, NoLeap, Day360}
use Rattle.cpl_calendar.specs.declared.fault.TimeFault.TheVariants.{BadTime, YearRange, NoSuchDay}
use Rattle.cpl_calendar.specs.declared.times.Parts.{Parts}

-- the months of a year
abbrev months : List ℕ
months = 1 ∷ 2 ∷ 3 ∷ 4 ∷ 5 ∷ 6 ∷ 7 ∷ 8 ∷ 9 ∷ 10 ∷ 11 ∷ 12 ∷ []

-- a date and a time of day
abbrev date_and_time : ℕ → ℕ → ℕ → ℕ → ℕ → ℕ → Parts
date_and_time year month day hour minute second =
    record { year = year; month = month; day = day; hour = hour; minute = minute; second = second }

-- texts with their moments or with why they have none, ends of time, months and their lengths, moments with their six numbers
pub record CalendarExamples : Type 0 where
  -- the first second
  pub gregorian_first : read_time Gregorian (codes "0001-01-01T00:00:00") ≡ Ok (pos 0)
  pub noleap_first : read_time NoLeap (codes "0001-01-01T00:00:00") ≡ Ok (pos 0)
  pub day360_first : read_time Day360 (codes "0001-01-01T00:00:00") ≡ Ok (pos 0)
  -- the day after 28 February of a leap year
  pub gregorian_day_28 : read_time Gregorian (codes "2000-02-28T00:00:00") ≡ Ok (pos 63087292800)
  pub gregorian_leap_day : read_time Gregorian (codes "2000-02-29T00:00:00") ≡ Ok (pos 63087379200)
  pub noleap_day_28 : read_time NoLeap (codes "2000-02-28T00:00:00") ≡ Ok (pos 63045475200)
  pub noleap_march : read_time NoLeap (codes "2000-03-01T00:00:00") ≡ Ok (pos 63045561600)
  pub day360_day_28 : read_time Day360 (codes "2000-02-28T00:00:00") ≡ Ok (pos 62181820800)
  pub day360_day_29 : read_time Day360 (codes "2000-02-29T00:00:00") ≡ Ok (pos 62181907200)
  -- days that a calendar lacks, and days that it has
  pub noleap_leap_day : read_time NoLeap (codes "2000-02-29T00:00:00") ≡ Err NoSuchDay
  pub gregorian_day_30 : read_time Gregorian (codes "2000-02-30T00:00:00") ≡ Err NoSuchDay
  pub noleap_day_30 : read_time NoLeap (codes "2000-02-30T00:00:00") ≡ Err NoSuchDay
  pub day360_day_30 : read_time Day360 (codes "2000-02-30T00:00:00") ≡ Ok (pos 62181993600)
  pub century_leap_day : read_time Gregorian (codes "1900-02-29T00:00:00") ≡ Err NoSuchDay
  pub century_march : read_time Gregorian (codes "1900-03-01T00:00:00") ≡ Ok (pos 59931705600)
  pub fourth_year_leap_day : read_time Gregorian (codes "2004-02-29T12:30:45") ≡ Ok (pos 63213654645)
  pub common_leap_day : read_time Gregorian (codes "2001-02-29T00:00:00") ≡ Err NoSuchDay
  pub day_zero : read_time Gregorian (codes "2000-01-00T00:00:00") ≡ Err NoSuchDay
  pub day360_day_31 : read_time Day360 (codes "2000-01-31T00:00:00") ≡ Err NoSuchDay
  -- the end of a year and the beginning of the next
  pub gregorian_year_end : read_time Gregorian (codes "1999-12-31T23:59:59") ≡ Ok (pos 63082281599)
  pub gregorian_year_begin : read_time Gregorian (codes "2000-01-01T00:00:00") ≡ Ok (pos 63082281600)
  pub noleap_year_end : read_time NoLeap (codes "1999-12-31T23:59:59") ≡ Ok (pos 63040463999)
  pub noleap_year_begin : read_time NoLeap (codes "2000-01-01T00:00:00") ≡ Ok (pos 63040464000)
  pub day360_year_end : read_time Day360 (codes "1999-12-30T23:59:59") ≡ Ok (pos 62176895999)
  pub day360_year_begin : read_time Day360 (codes "2000-01-01T00:00:00") ≡ Ok (pos 62176896000)
  -- what the calendar lacks: the form comes first, then the year, then the day
  pub year_zero : read_time Gregorian (codes "0000-01-01T00:00:00") ≡ Err YearRange
  pub year_zero_day_30 : read_time Gregorian (codes "0000-02-30T00:00:00") ≡ Err YearRange
  pub year_zero_month_13 : read_time Gregorian (codes "0000-13-01T00:00:00") ≡ Err BadTime
  pub month_zero : read_time Gregorian (codes "2000-00-01T00:00:00") ≡ Err BadTime
  pub hour_24 : read_time Gregorian (codes "2000-01-01T24:00:00") ≡ Err BadTime
  pub minute_60 : read_time Gregorian (codes "2000-01-01T00:60:00") ≡ Err BadTime
  pub second_60 : read_time Gregorian (codes "2000-02-30T00:00:60") ≡ Err BadTime
  pub blank : read_time Gregorian (codes "2000-01-01 00:00:00") ≡ Err BadTime
  pub blank_in_front : read_time Gregorian (codes " 2000-01-01T00:00:0") ≡ Err BadTime
  pub digit_missing : read_time Gregorian (codes "2000-1-01T00:00:00") ≡ Err BadTime
  pub sign : read_time Gregorian (codes "-200-01-01T00:00:00") ≡ Err BadTime
  pub twentieth_byte : read_time Gregorian (codes "2000-01-01T00:00:00Z") ≡ Err BadTime
  pub no_byte : read_time Gregorian (codes "") ≡ Err BadTime
  -- the days before 1970, as other calendars count them
  pub epoch : days_before Gregorian (month_number 1970 1) ≡ 719162
  -- the last second and the end
  pub gregorian_last : read_time Gregorian (codes "9999-12-31T23:59:59") ≡ Ok (pos 315537897599)
  pub gregorian_end : end_of_time Gregorian ≡ 315537897600
  pub noleap_last : read_time NoLeap (codes "9999-12-31T23:59:59") ≡ Ok (pos 315328463999)
  pub noleap_end : end_of_time NoLeap ≡ 315328464000
  pub day360_last : read_time Day360 (codes "9999-12-30T23:59:59") ≡ Ok (pos 311008895999)
  pub day360_end : end_of_time Day360 ≡ 311008896000
  -- how long the months of a year are
  pub gregorian_months : map (month_length Gregorian 2001) months ≡ 31 ∷ 28 ∷ 31 ∷ 30 ∷ 31 ∷ 30 ∷ 31 ∷ 31 ∷ 30 ∷ 31 ∷ 30 ∷ 31 ∷ []
  pub gregorian_leap_months : map (month_length Gregorian 2000) months ≡ 31 ∷ 29 ∷ 31 ∷ 30 ∷ 31 ∷ 30 ∷ 31 ∷ 31 ∷ 30 ∷ 31 ∷ 30 ∷ 31 ∷ []
  pub noleap_months : map (month_length NoLeap 2000) months ≡ 31 ∷ 28 ∷ 31 ∷ 30 ∷ 31 ∷ 30 ∷ 31 ∷ 31 ∷ 30 ∷ 31 ∷ 30 ∷ 31 ∷ []
  pub day360_months : map (month_length Day360 2000) months ≡ 30 ∷ 30 ∷ 30 ∷ 30 ∷ 30 ∷ 30 ∷ 30 ∷ 30 ∷ 30 ∷ 30 ∷ 30 ∷ 30 ∷ []
  -- a text that is written
  pub writes : text_of_parts (date_and_time 7 12 3 4 50 6) ≡ codes "0007-12-03T04:50:06"
  -- the six numbers of the first and of the last second
  pub gregorian_first_parts : parts_at Gregorian (pos 0) ≡ date_and_time 1 1 1 0 0 0
  pub noleap_first_parts : parts_at NoLeap (pos 0) ≡ date_and_time 1 1 1 0 0 0
  pub day360_first_parts : parts_at Day360 (pos 0) ≡ date_and_time 1 1 1 0 0 0
  pub gregorian_last_parts : parts_at Gregorian (pos 315537897599) ≡ date_and_time 9999 12 31 23 59 59
  pub noleap_last_parts : parts_at NoLeap (pos 315328463999) ≡ date_and_time 9999 12 31 23 59 59
  pub day360_last_parts : parts_at Day360 (pos 311008895999) ≡ date_and_time 9999 12 30 23 59 59
  -- a day after 2000-02-28T00:00:00
  pub gregorian_day_later : parts_at Gregorian (pos 63087379200) ≡ date_and_time 2000 2 29 0 0 0
  pub noleap_day_later : parts_at NoLeap (pos 63045561600) ≡ date_and_time 2000 3 1 0 0 0
  pub day360_day_later : parts_at Day360 (pos 62181907200) ≡ date_and_time 2000 2 29 0 0 0
  -- a common year ends a little before the mean length of a year says, a leap year a little after
  pub second_year : map (years_before Gregorian) (364 ∷ 365 ∷ 1460 ∷ 1461 ∷ []) ≡ 0 ∷ 1 ∷ 3 ∷ 4 ∷ []
  pub second_year_parts : parts_at Gregorian (pos 31536000) ≡ date_and_time 2 1 1 0 0 0
  pub leap_year_end_parts : parts_at Gregorian (pos 63113903999) ≡ date_and_time 2000 12 31 23 59 59
  pub century_end_parts : parts_at Gregorian (pos 59926607999) ≡ date_and_time 1899 12 31 23 59 59
  pub cycle : days_of_years Gregorian 400 ≡ 146097
  -- a time of day
  pub evening_parts : parts_at Gregorian (pos 63871245296) ≡ date_and_time 2024 12 31 12 34 56
