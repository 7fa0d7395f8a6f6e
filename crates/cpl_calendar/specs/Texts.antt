-- The texts of times, `YYYY-MM-DDThh:mm:ss`: how they are written, and how they are read.
use Rattle.std.specs.Prelude.{◌≡◌, ℕ, ℤ, pos, ◌+◌, ◌-◌, ◌*◌, ◌/◌, ◌%◌, ◌≤◌, Bool, ◌&&◌, nat_le, if◌then◌else◌, List, [], ◌∷◌, ◌++◌, slice_index, Result, Err}
use Rattle.std.specs.Str.{bytes_eq}
use Rattle.cpl_calendar.specs.Calendar.{IsTime, moment_of, moment_or_fault}
use Rattle.cpl_calendar.specs.declared.calendar.Cal.{Cal}
use Rattle.cpl_calendar.specs.declared.times.Parts.{Parts}
use Rattle.cpl_calendar.specs.declared.fault.TimeFault.{TimeFault}
use Rattle.cpl_calendar.specs.declared.fault.TimeFault.TheVariants.{BadTime}

-- ---- writing

-- two digits of a number below a hundred
abbrev pub two_digits : ℕ → List ℕ
two_digits n = (48 + n / 10) ∷ (48 + n % 10) ∷ []

-- four digits of a number below ten thousand
abbrev pub four_digits : ℕ → List ℕ
four_digits n = two_digits (n / 100) ++ two_digits (n % 100)

-- a separator and two digits
abbrev pub two_digits_after : ℕ → ℕ → List ℕ
two_digits_after separator n = separator ∷ two_digits n

-- the text of a date and a time of day, with `-`, `T` and `:` between the numbers
abbrev pub text_of_parts : Parts → List ℕ
text_of_parts p =
    four_digits p.year ++ two_digits_after 45 p.month ++ two_digits_after 45 p.day ++ two_digits_after 84 p.hour
    ++ two_digits_after 58 p.minute ++ two_digits_after 58 p.second

-- What a text of the form can write: a year of four digits, a day of two, the rest within their ranges.
pub record IsForm (p : Parts) : Type 0 where
  pub year : p.year ≤ 9999
  pub month_low : 1 ≤ p.month
  pub month_high : p.month ≤ 12
  pub day : p.day ≤ 99
  pub hour : p.hour ≤ 23
  pub minute : p.minute ≤ 59
  pub second : p.second ≤ 59

-- The text is what writing makes of parts that a text of the form can write.
pub record Spells (text : List ℕ) (p : Parts) : Type 0 where
  pub form : IsForm p
  pub text_is : text ≡ text_of_parts p

-- ---- reading

-- the number that two digits at a place write
abbrev pub number_at : List ℕ → ℕ → ℕ
number_at text place = 10 * (slice_index text place - 48) + (slice_index text (place + 1) - 48)

-- the six numbers at their places
abbrev pub parts_in : List ℕ → Parts
parts_in text = record {
  year = 100 * number_at text 0 + number_at text 2;
  month = number_at text 5;
  day = number_at text 8;
  hour = number_at text 11;
  minute = number_at text 14;
  second = number_at text 17;
}

-- whether a text of the form can write these parts
abbrev pub is_form : Parts → Bool
is_form p =
    nat_le p.year 9999 && nat_le 1 p.month && nat_le p.month 12 && nat_le p.day 99
    && nat_le p.hour 23 && nat_le p.minute 59 && nat_le p.second 59

-- the moment that a text writes, if it is what writing makes of the numbers at their places
unfoldable pub read_time : Cal → List ℕ → Result ℤ TimeFault
read_time cal text =
    if bytes_eq text (text_of_parts (parts_in text)) && is_form (parts_in text) then moment_or_fault cal (parts_in text)
    else Err BadTime

-- The text is that of a time of the calendar whose moment this is.
pub record Shows (cal : Cal) (text : List ℕ) (moment : ℤ) : Type 0 where
  pub parts : Parts
  pub is_time : IsTime cal parts
  pub moment_is : pos (moment_of cal parts) ≡ moment
  pub text_is : text ≡ text_of_parts parts
