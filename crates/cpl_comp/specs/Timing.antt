-- When a run takes place: its calendar, the moment of its start and its alarms; and what they make of a time.
use Rattle.std.specs.Prelude.{ℕ, ℤ, pos, ◌+◌, ◌*◌, ◌+ℤ◌, Bool, false, List, slice_get}
use Rattle.std.specs.Int.{int_div_euclid}
use Rattle.std.specs.Option.{option_map_or}
use Rattle.cpl_calendar.specs.Parts.{parts_at}
use Rattle.cpl_calendar.specs.declared.calendar.Cal.{Cal}
use Rattle.cpl_calendar.specs.declared.times.Parts.{Parts}
use Rattle.cpl_clock.specs.Alarm.{is_ringing}
use Rattle.cpl_clock.specs.declared.alarm.Alarm.{Alarm}

-- The calendar, the moment of the start, and the alarms. Times of a run are whole seconds after the start.
pub record Timing : Type 0 where
  pub cal : Cal
  pub start : ℤ
  pub alarms : List Alarm

-- the six numbers of the moment that lies so many seconds after the start
abbrev pub parts_after : Timing → ℤ → Parts
parts_after timing seconds = parts_at timing.cal (timing.start +ℤ seconds)

-- the second of its day
abbrev pub day_second : Parts → ℕ
day_second parts = 3600 * parts.hour + 60 * parts.minute + parts.second

-- how many midnights lie between the start and a time, which counts one at which it falls
abbrev pub days_after : Timing → ℤ → ℤ
days_after timing seconds = int_div_euclid (seconds +ℤ pos (day_second (parts_after timing (pos 0)))) (pos 86400)

-- whether the alarm of a place rings at a time
abbrev pub is_alarm_at : Timing → ℕ → ℤ → Bool
is_alarm_at timing alarm seconds =
    option_map_or (λ a. is_ringing a timing.cal timing.start seconds) (slice_get timing.alarms alarm) false
