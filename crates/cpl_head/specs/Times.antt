-- The calendar of a run, its start, how long it lasts, and its step.
use Rattle.std.specs.Prelude.{ℕ, ℤ, pos, ◌-ℤ◌, ◌≤ℤ◌, if◌then◌else◌, int_lt, List, codes, Option, Some, None, option_and_then, Result, Ok}
use Rattle.std.specs.Option.{ok_or}
use Rattle.std.specs.Result.{result_map_both}
use Rattle.std.specs.Str.{bytes_eq}
use Rattle.cpl_base.specs.Chain.{sole_member}
use Rattle.cpl_base.specs.Numerals.{number_between}
use Rattle.cpl_base.specs.ResultChain.{◌>>=◌, ok_if}
use Rattle.cpl_calendar.specs.Calendar.{end_of_time, moment_of}
use Rattle.cpl_calendar.specs.Texts.{read_time}
use Rattle.cpl_calendar.specs.declared.calendar.Cal.{Cal}
use Rattle.cpl_calendar.specs.declared.calendar.Cal.TheVariants.{Gregorian, NoLeap, Day360}
use Rattle.cpl_calendar.specs.declared.fault.TimeFault.{TimeFault}
use Rattle.cpl_calendar.specs.declared.fault.TimeFault.TheVariants as time
use Rattle.cpl_calendar.specs.declared.times.Parts.{Parts}
use Rattle.cpl_config.specs.declared.row.Row.{Row}
use Rattle.cpl_head.specs.declared.fault.HeadFault.{HeadFault}
use Rattle.cpl_head.specs.declared.fault.HeadFault.TheVariants.{BadTime, BadValue, NoSuchDay, StopNotAfter, YearRange}

-- ---- the calendar

-- the calendar that a word names
abbrev pub calendar_word : List ℕ → Option Cal
calendar_word word =
    if bytes_eq word (codes "gregorian") then Some Gregorian
    else if bytes_eq word (codes "noleap") then Some NoLeap
    else if bytes_eq word (codes "360day") then Some Day360
    else None

-- the calendar that the one word names; the Gregorian, where none is given
abbrev pub calendar_in : Option Row → Result Cal HeadFault
calendar_in None = Ok Gregorian
calendar_in (Some row) = ok_or (option_and_then calendar_word (sole_member row.words)) (BadValue row.line)

-- ---- start and stop

-- why the word in a line is no time of the calendar
abbrev pub time_fault : ℕ → TimeFault → HeadFault
time_fault line time.BadTime = BadTime line
time_fault line time.YearRange = YearRange line
time_fault line time.NoSuchDay = NoSuchDay line

-- the moment that the one word of a row writes
abbrev pub moment_in : Cal → Row → Result ℤ HeadFault
moment_in cal row =
    ok_or (sole_member row.words) (BadValue row.line) >>= (λ word.
    result_map_both (λ moment. moment) (time_fault row.line) (read_time cal word))

-- the first second of the year 2000
abbrev pub first_of_2000 : Parts
first_of_2000 = record { year = 2000; month = 1; day = 1; hour = 0; minute = 0; second = 0 }

-- the moment at which a run starts; the first second of the year 2000, where none is given
abbrev pub start_in : Cal → Option Row → Result ℤ HeadFault
start_in cal None = Ok (pos (moment_of cal first_of_2000))
start_in cal (Some row) = moment_in cal row

-- the seconds from the start to the stop, where a stop is given
abbrev pub span_in : Cal → ℤ → Option Row → Result (Option ℤ) HeadFault
span_in cal start None = Ok None
span_in cal start (Some row) =
    moment_in cal row >>= (λ stop.
    ok_if (int_lt start stop) (StopNotAfter row.line) >>= (λ _.
    Ok (Some (stop -ℤ start))))

-- the seconds from a moment to the end of the calendar
abbrev pub room_after : Cal → ℤ → ℤ
room_after cal moment = pos (end_of_time cal) -ℤ moment

-- ---- the step

-- the one number of seconds, from 1 to a thousand million
abbrev pub step_words : List (List ℕ) → Option ℕ
step_words words = option_and_then (number_between 1 1000000000) (sole_member words)

-- the step of the run, where one is given
abbrev pub time_step_in : Option Row → Result (Option ℤ) HeadFault
time_step_in None = Ok None
time_step_in (Some row) = ok_or (step_words row.words) (BadValue row.line) >>= (λ seconds. Ok (Some (pos seconds)))

-- a step, in seconds
abbrev pub IsStep : ℤ → Type 0
IsStep step = (pos 1 ≤ℤ step) × (step ≤ℤ pos 1000000000)
