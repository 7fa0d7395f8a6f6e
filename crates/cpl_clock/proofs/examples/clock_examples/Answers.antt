use Rattle.std.proofs.Common.{◌+◌, ◌*◌, refl, arith, inl, inr, pos}
use Rattle.std.proofs.lemmas.Bool.{cases_lt}
use Rattle.cpl_calendar.specs.Calendar.{days_before}
use Rattle.cpl_calendar.specs.Parts.{month_day, parts_at}
use Rattle.cpl_calendar.specs.Texts.{read_time}
use Rattle.cpl_calendar.specs.declared.calendar.Cal.TheVariants.{Gregorian}
use Rattle.cpl_calendar.proofs.DateOrder.{days_before_mono}
use Rattle.cpl_calendar.proofs.Months.{days_before-at}
use Rattle.cpl_clock.specs.Alarm.{IsMonthBegin}
use Rattle.cpl_clock.proofs.AlarmFacts.{from_pos}
use Rattle.cpl_clock.proofs.examples.clock_examples.Goals as goal

-- no month begins with the last day of January
last_of_january_rests : ¬ IsMonthBegin Gregorian (pos 63084873600)
last_of_january_rests (n, e) =
    let days = from_pos 63084873600 (86400 * days_before Gregorian n) e in
    elim (cases_lt n 23989) [
      | inl early ↦ absurd (omega (arith, days_before_mono Gregorian n 23988 (omega arith), days_before-at Gregorian 23988))
      | inr late ↦ absurd (omega (arith, days_before_mono Gregorian 23989 n late, days_before-at Gregorian 23989))
    ]

pub returns : goal.returns
unfolding read_time parts_at month_day
returns c = record {
  begins = refl;
  no_step = refl;
  no_step_first = refl;
  no_time = refl;
  goes_on = refl;
  stops = refl;
  every_rings = (2, refl);
  every_rests = λ (k, e). let sum = from_pos (0 + k * 21600) 43201 e in absurd (omega arith);
  before_first = λ (k, e). let sum = from_pos (21600 + k * 3600) 0 e in absurd (omega arith);
  last_of_january = rw days_before-at refl;
  month_rings = (23989, rw days_before-at refl);
  month_rests = last_of_january_rests;
  every_is_ringing = refl;
  every_is_resting = refl;
  first_is_ringing = refl;
  before_first_is_resting = refl;
  month_is_ringing = refl;
  month_is_resting = refl;
  second_is_resting = refl;
  gregorian_february_29 = refl;
  noleap_march = refl;
  day360_february_30 = refl;
}
