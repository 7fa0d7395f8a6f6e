-- The moment of an operation, and the numbers that rules read of it.
use Rattle.std.specs.Prelude.{◌≡◌, ℤ, pos, ◌+ℤ◌, ◌≤ℤ◌, Bool, true, false, []}
use Rattle.std.specs.List.{All}
use Rattle.cpl_calendar.specs.Calendar.{InTime}
use Rattle.cpl_clock.specs.Alarm.{IsRegular}
use Rattle.cpl_comp.specs.Readings.{Reading, name_value}
use Rattle.cpl_comp.specs.Timing.{Timing, days_after, parts_after}
use Rattle.cpl_formula.specs.declared.formula.ReadName.{ReadName}
use Rattle.cpl_formula.specs.declared.formula.ReadName.TheVariants as names
use Rattle.cpl_grid.specs.declared.grid.Grid.{Grid}
use Rattle.cpl_rule.specs.declared.moment.Moment.{Moment}
use Rattle.cpl_rule.specs.declared.moment.Times.{Times}

-- the timing that times are
abbrev pub timing_of : Times → Timing
timing_of times = record { cal = times.cal; start = times.start; alarms = times.alarms.now }

-- A time of a run: it and its start lie in the calendar, and alarms are regular.
pub record IsTimed (times : Times) (at : ℤ) : Type 0 where
  pub start : pos 0 ≤ℤ times.start
  pub low : pos 0 ≤ℤ at
  pub within : InTime times.cal (times.start +ℤ at)
  pub regular : All IsRegular times.alarms.now

-- A moment of a run, with its numbers.
pub record IsMoment (moment : Moment) : Type 0 where
  pub timed : IsTimed moment.times moment.at
  pub parts : moment.parts ≡ parts_after (timing_of moment.times) moment.at
  pub midnights : moment.midnights ≡ days_after (timing_of moment.times) moment.at

-- Rules read at this moment, over this grid.
pub record IsAt (moment : Moment) (grid : Grid) (reading : Reading) : Type 0 where
  pub timing : reading.timing ≡ timing_of moment.times
  pub at : reading.at ≡ moment.at
  pub dt : reading.dt ≡ moment.dt
  pub over : reading.layout.grid ≡ grid

-- ---- numbers

-- whether a name stands for one number at all cells
abbrev pub is_number : ReadName → Bool
is_number (names.Field k) = false
is_number names.I = false
is_number names.J = false
is_number names.S = false
is_number name = true

-- what rules read at a moment, without fields and entries
abbrev pub bare_reading : Grid → Moment → Reading
bare_reading grid moment = record {
  timing = timing_of moment.times;
  entries = [];
  layout = record { grid = grid; px = 1; py = 1; first_pet = 0 };
  at = moment.at;
  dt = moment.dt;
  value = λ k s. pos 0;
}

-- the number that a name stands for at all cells
abbrev pub number_of : Grid → Moment → ReadName → ℤ
number_of grid moment name = name_value (bare_reading grid moment) 0 0 name
