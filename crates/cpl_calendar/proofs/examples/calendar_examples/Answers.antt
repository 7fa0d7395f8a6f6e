use Rattle.std.proofs.Common.{refl}
use Rattle.cpl_calendar.specs.Texts.{read_time}
use Rattle.cpl_calendar.specs.Parts.{month_day, parts_at}
use Rattle.cpl_calendar.proofs.Months.{days_before-at}
use Rattle.cpl_calendar.proofs.examples.calendar_examples.Goals as goal

pub returns : goal.returns
unfolding read_time parts_at month_day
returns c = record {
  gregorian_first = rw days_before-at refl;
  noleap_first = rw days_before-at refl;
  day360_first = rw days_before-at refl;
  gregorian_day_28 = rw days_before-at refl;
  gregorian_leap_day = rw days_before-at refl;
  noleap_day_28 = rw days_before-at refl;
  noleap_march = rw days_before-at refl;
  day360_day_28 = rw days_before-at refl;
  day360_day_29 = rw days_before-at refl;
  noleap_leap_day = refl;
  gregorian_day_30 = refl;
  noleap_day_30 = refl;
  day360_day_30 = rw days_before-at refl;
  century_leap_day = refl;
  century_march = rw days_before-at refl;
  fourth_year_leap_day = rw days_before-at refl;
  common_leap_day = refl;
  day_zero = refl;
  day360_day_31 = refl;
  gregorian_year_end = rw days_before-at refl;
  gregorian_year_begin = rw days_before-at refl;
  noleap_year_end = rw days_before-at refl;
  noleap_year_begin = rw days_before-at refl;
  day360_year_end = rw days_before-at refl;
  day360_year_begin = rw days_before-at refl;
  year_zero = refl;
  year_zero_day_30 = refl;
  year_zero_month_13 = refl;
  month_zero = refl;
  hour_24 = refl;
  minute_60 = refl;
  second_60 = refl;
  blank = refl;
  blank_in_front = refl;
  digit_missing = refl;
  sign = refl;
  twentieth_byte = refl;
  no_byte = refl;
  epoch = rw days_before-at refl;
  gregorian_last = rw days_before-at refl;
  gregorian_end = rw days_before-at refl;
  noleap_last = rw days_before-at refl;
  noleap_end = rw days_before-at refl;
  day360_last = rw days_before-at refl;
  day360_end = rw days_before-at refl;
  gregorian_months = refl;
  gregorian_leap_months = refl;
  noleap_months = refl;
  day360_months = refl;
  writes = refl;
  gregorian_first_parts = refl;
  noleap_first_parts = refl;
  day360_first_parts = refl;
  gregorian_last_parts = refl;
  noleap_last_parts = refl;
  day360_last_parts = refl;
  gregorian_day_later = refl;
  noleap_day_later = refl;
  day360_day_later = refl;
  second_year = refl;
  second_year_parts = refl;
  leap_year_end_parts = refl;
  century_end_parts = refl;
  cycle = refl;
  evening_parts = refl;
}
