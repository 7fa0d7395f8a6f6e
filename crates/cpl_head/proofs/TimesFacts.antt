-- The first second of the year 2000, and the room that a calendar leaves behind a moment.
use Rattle.std.proofs.Common.{◌≡◌, ◌≤◌, ◌^◌, ℤ, pos, ◌≤ℤ◌, codes, Ok, refl, arith, lit≤}
use Rattle.std.proofs.lemmas.Int.{ints}
use Rattle.cpl_calendar.specs.Calendar.{InTime, end_of_time, moment_of, moment_or_fault}
use Rattle.cpl_calendar.specs.Texts.{Spells}
use Rattle.cpl_calendar.specs.declared.calendar.Cal.{Cal}
use Rattle.cpl_calendar.specs.declared.calendar.Cal.TheVariants.{Gregorian, NoLeap, Day360}
use Rattle.cpl_calendar.proofs.Months.{days_before-at}
use Rattle.cpl_head.specs.Times.{first_of_2000, room_after}

-- a text spells it
pub first_of_2000-Spells : Spells (codes "2000-01-01T00:00:00") first_of_2000
first_of_2000-Spells = record {
  form = record { year = lit≤ tt; month_low = lit≤ tt; month_high = lit≤ tt; day = lit≤ tt; hour = lit≤ tt; minute = lit≤ tt; second = lit≤ tt };
  text_is = refl;
}

-- each calendar has it
pub first_of_2000-moment : (cal : Cal) → moment_or_fault cal first_of_2000 ≡ Ok (pos (moment_of cal first_of_2000))
first_of_2000-moment Gregorian = refl
first_of_2000-moment NoLeap = refl
first_of_2000-moment Day360 = refl

-- calendars end before 2^40
end_of_time-small : (cal : Cal) → end_of_time cal ≤ 2 ^ 40
end_of_time-small Gregorian = rw days_before-at (lit≤ tt)
end_of_time-small NoLeap = rw days_before-at (lit≤ tt)
end_of_time-small Day360 = rw days_before-at (lit≤ tt)

-- the same of signed numbers
pub end_of_time-most : (cal : Cal) → pos (end_of_time cal) ≤ℤ pos (2 ^ 40)
end_of_time-most cal = omega (arith, ints, end_of_time-small cal)

-- there is room behind each moment
pub room_after-least : (cal : Cal) (moment : ℤ) → InTime cal moment → pos 1 ≤ℤ room_after cal moment
room_after-least cal moment within = omega (arith, ints, within.begun, within.not_over)

-- and not more than 2^40 seconds
pub room_after-most : (cal : Cal) (moment : ℤ) → InTime cal moment → room_after cal moment ≤ℤ pos (2 ^ 40)
room_after-most cal moment within = omega (arith, ints, within.begun, end_of_time-small cal)
