-- Alarms: when one rings.
use Rattle.std.specs.Prelude.{◌≡◌, ℕ, ◌*◌, ℤ, pos, ◌+ℤ◌, ◌-ℤ◌, ◌*ℤ◌, ◌≤ℤ◌, Bool, ◌&&◌, ◌==◌, int_le, int_rem}
use Rattle.std.specs.Ordering.{int_eq}
use Rattle.cpl_calendar.specs.Calendar.{days_before}
use Rattle.cpl_calendar.specs.Parts.{parts_at}
use Rattle.cpl_calendar.specs.declared.calendar.Cal.{Cal}
use Rattle.cpl_calendar.specs.declared.times.Parts.{Parts}
use Rattle.cpl_clock.specs.declared.alarm.Alarm.{Alarm}
use Rattle.cpl_clock.specs.declared.alarm.Alarm.TheVariants.{Every, Monthly}

-- the first ring isn't before the start, and an interval is a second or more
abbrev pub IsRegular : Alarm → Type 0
IsRegular (Every first interval) = (pos 0 ≤ℤ first) × (pos 1 ≤ℤ interval)
IsRegular Monthly = Unit {0}

-- ---- when an alarm rings

-- a whole number of intervals after the first ring
abbrev pub RingsEvery : ℤ → ℤ → ℤ → Type 0
RingsEvery first interval seconds = (k : ℕ) × (first +ℤ (pos k *ℤ interval) ≡ seconds)

-- the first second of a month: whole months of the calendar lie before it
abbrev pub IsMonthBegin : Cal → ℤ → Type 0
IsMonthBegin cal moment = (n : ℕ) × (moment ≡ pos (86400 * days_before cal n))

-- when an alarm rings, in seconds after the start
abbrev pub Rings : Alarm → Cal → ℤ → ℤ → Type 0
Rings (Every first interval) cal start seconds = RingsEvery first interval seconds
Rings Monthly cal start seconds = IsMonthBegin cal (start +ℤ seconds)

-- ---- the same by functions that compute

-- whether whole intervals lie between the first ring and the seconds
abbrev pub is_ringing_every : ℤ → ℤ → ℤ → Bool
is_ringing_every first interval seconds =
    int_le first seconds && int_eq (int_rem (seconds -ℤ first) interval) (pos 0)

-- whether the parts are those of the first second of a month
abbrev pub is_month_begin : Parts → Bool
is_month_begin p = (p.day == 1) && (p.hour == 0) && (p.minute == 0) && (p.second == 0)

-- whether an alarm rings so many seconds after the start
abbrev pub is_ringing : Alarm → Cal → ℤ → ℤ → Bool
is_ringing (Every first interval) cal start seconds = is_ringing_every first interval seconds
is_ringing Monthly cal start seconds = is_month_begin (parts_at cal (start +ℤ seconds))
