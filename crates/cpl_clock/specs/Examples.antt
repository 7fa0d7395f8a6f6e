-- The definitions of clocks and alarms, evaluated on examples.
use Rattle.std.specs.Prelude.{◌≡◌, pos, codes, Ok, Err, true, false}
use Rattle.cpl_calendar.specs.Texts.{read_time}
use Rattle.cpl_calendar.specs.declared.calendar.Cal.TheVariants.{Gregorian, NoLeap, Day360}
use Rattle.cpl_clock.specs.Alarm.{Rings, is_ringing}
use Rattle.cpl_clock.specs.Clock.{clock_at_start, clock_after_step}
use Rattle.cpl_clock.specs.declared.alarm.Alarm.TheVariants.{Every, Monthly}
use Rattle.cpl_clock.specs.declared.fault.ClockFault.TheVariants.{StepZero, StopNotAfter, PastStop}

-- clocks that begin, that go on and that don't, and alarms that ring and that don't
pub record ClockExamples : Type 0 where
  pub begins : clock_at_start (pos 5) (pos 65) (pos 20) ≡ Ok (record { current = pos 5; stop = pos 65; step = pos 20 })
  pub no_step : clock_at_start (pos 0) (pos 10) (pos 0) ≡ Err StepZero
  pub no_step_first : clock_at_start (pos 5) (pos 5) (pos 0) ≡ Err StepZero
  pub no_time : clock_at_start (pos 5) (pos 5) (pos 1) ≡ Err StopNotAfter
  pub goes_on : clock_after_step (record { current = pos 45; stop = pos 65; step = pos 20 }) ≡ Ok (record { current = pos 65; stop = pos 65; step = pos 20 })
  pub stops : clock_after_step (record { current = pos 46; stop = pos 65; step = pos 20 }) ≡ Err PastStop
  -- every six hours from the start on
  pub every_rings : Rings (Every (pos 0) (pos 21600)) Gregorian (pos 0) (pos 43200)
  pub every_rests : ¬ Rings (Every (pos 0) (pos 21600)) Gregorian (pos 0) (pos 43201)
  pub before_first : ¬ Rings (Every (pos 21600) (pos 3600)) Gregorian (pos 0) (pos 0)
  -- a run that starts a day before a month does
  pub last_of_january : read_time Gregorian (codes "2000-01-31T00:00:00") ≡ Ok (pos 63084873600)
  pub month_rings : Rings Monthly Gregorian (pos 63084873600) (pos 86400)
  pub month_rests : ¬ Rings Monthly Gregorian (pos 63084873600) (pos 0)
  -- the same, computed
  pub every_is_ringing : is_ringing (Every (pos 0) (pos 21600)) Gregorian (pos 0) (pos 43200) ≡ true
  pub every_is_resting : is_ringing (Every (pos 0) (pos 21600)) Gregorian (pos 0) (pos 43201) ≡ false
  pub first_is_ringing : is_ringing (Every (pos 21600) (pos 3600)) Gregorian (pos 0) (pos 21600) ≡ true
  pub before_first_is_resting : is_ringing (Every (pos 21600) (pos 3600)) Gregorian (pos 0) (pos 18000) ≡ false
  pub month_is_ringing : is_ringing Monthly Gregorian (pos 63084873600) (pos 86400) ≡ true
  pub month_is_resting : is_ringing Monthly Gregorian (pos 63084873600) (pos 0) ≡ false
  pub second_is_resting : is_ringing Monthly Gregorian (pos 63084873600) (pos 86401) ≡ false
  -- 2000-02-28T00:00:00 and a day or two later
  pub gregorian_february_29 : is_ringing Monthly Gregorian (pos 63087292800) (pos 86400) ≡ false
  pub noleap_march : is_ringing Monthly NoLeap (pos 63045475200) (pos 86400) ≡ true
  pub day360_february_30 : is_ringing Monthly Day360 (pos 62181820800) (pos 172800) ≡ false
