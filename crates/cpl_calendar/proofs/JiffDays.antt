-- The days before a Gregorian date are those that `jiff` counts, from 1970 on and before.
use Rattle.std.proofs.Common.{◌≡◌, ℕ, zero, suc, ◌+◌, ◌-◌, ◌*◌, ◌<◌, ◌≤◌, refl, ◌∙◌, arith, add-one, ℤ, pos, negsuc, neg_ℤ, ◌+ℤ◌, ◌≤ℤ◌, unsigned_abs}
use Rattle.std.proofs.lemmas.Int.{by_lt_z}
use Rattle.jiff_core.specs.declared.civil.date.Date.{Date}
use Rattle.jiff_core.specs.Calendar.{IsCivilDate, day_count, days_from_civil, days_in_month, days_in_year}
use Rattle.jiff_core.specs.Date.{IsYmd, epoch_day}
use Rattle.jiff_core.specs.Span.{IsOnly}
use Rattle.jiff_core.specs.declared.span.Span.{Span}
use Rattle.jiff_core.specs.declared.unit.Unit.TheVariants.{Day}
use Rattle.jiff.specs.Words.{date_add}
use Rattle.jiff.proofs.SpanFacts.{date_add-days}
use Rattle.jiff_core.proofs.CalendarLemmas.{day_count-day, day_count-lt_year, day_count-next_month, day_count-next_year, days_from_civil-day_count}
use Rattle.jiff_core.proofs.DateLemmas.{civil}
use Rattle.jiff_core.proofs.MarchLemmas.{day_count-early}
use Rattle.jiff_core.proofs.SignedLemmas.{signed_arith}
use Rattle.cpl_calendar.specs.Calendar.{IsDate, date_number, days_before, month_length}
use Rattle.cpl_calendar.specs.Dates.{IsNumbered}
use Rattle.cpl_calendar.specs.declared.calendar.Cal.TheVariants.{Gregorian}
use Rattle.cpl_calendar.proofs.Months.{days_before-suc, days_before-zero, gregorian_year, in_year, days_of_years-suc, numbered_length-at, whole_years}

-- jiff's months are as long
days_in_month-length : (y m : ℕ) → days_in_month (pos y) m ≡ month_length Gregorian y m
days_in_month-length y m = grind arith

-- and so are its years
days_in_year-length : (y : ℕ) → days_in_year (pos y) ≡ in_year Gregorian y 12
days_in_year-length y = rw (gregorian_year y) (grind arith)

-- jiff counts from a day long before the year 1
first_day : day_count (pos 1) 1 1 ≡ 3652791
first_day = day_count-early (pos 1) 10000 1 1 refl (omega arith) (omega arith) (omega arith)

-- each year begins as many days after that
year_begins : (y : ℕ) → day_count (pos (suc y)) 1 1 ≡ days_before Gregorian (12 * y) + 3652791
year_begins zero = rw (days_before-zero Gregorian) first_day
year_begins (suc y) =
    let next = day_count-next_year (pos (suc y)) (pos (suc (suc y))) (omega (arith, signed_arith)) (omega (arith, signed_arith)) in
    omega (arith, year_begins y, whole_years Gregorian y, whole_years Gregorian (suc y), days_of_years-suc Gregorian y, days_in_year-length (suc y))

-- and so does each month
month_begins : (y k : ℕ) → k < 12 → day_count (pos (suc y)) (suc k) 1 ≡ days_before Gregorian (12 * y + k) + 3652791
month_begins y zero h = let same : 12 * y + 0 ≡ 12 * y = omega arith in rw same (year_begins y)
month_begins y (suc k) h =
    let next = rw add-one at (day_count-next_month (pos (suc y)) (suc k) (omega arith)) in
    let same : 12 * y + suc k ≡ 12 * y + k + 1 = omega arith in
    rw same (omega (arith, month_begins y k (omega arith), days_before-suc Gregorian (12 * y + k), numbered_length-at Gregorian y k (omega arith), days_in_month-length (suc y) (suc k)))

-- and each date
day_count-number : (y m d : ℕ) → 1 ≤ y → 1 ≤ m → m ≤ 12 → 1 ≤ d → day_count (pos y) m d ≡ date_number Gregorian y m d + 3652791
day_count-number y m d year low high day =
    let y_is : suc (y - 1) ≡ y = omega arith in
    let m_is : suc (m - 1) ≡ m = omega arith in
    let begins = rw (y_is, m_is) at (month_begins (y - 1) (m - 1) (omega arith)) in
    omega (arith, day_count-day (pos y) m d 1 day (omega arith))

-- a date of jiff, from the year 1 on, is a date of the calendar
pub date_of_civil : (z : ℤ) (m d : ℕ) → IsCivilDate z m d → pos 1 ≤ℤ z → IsDate Gregorian (unsigned_abs z) m d
date_of_civil (negsuc n) m d h low = absurd (omega (arith, signed_arith))
date_of_civil (pos y) m d h low = record {
  year_low = omega (arith, signed_arith);
  year_high = omega (arith, signed_arith, h.0);
  month_low = h.1.0;
  month_high = h.1.1;
  day_low = h.2.0;
  day_high = rw (← days_in_month-length y m) h.2.1;
}

-- its day number is the days before it, from 1970 on
pub days_from_civil-number : (z : ℤ) (m d : ℕ) → IsCivilDate z m d → pos 1 ≤ℤ z → days_from_civil z m d +ℤ pos 719162 ≡ pos (date_number Gregorian (unsigned_abs z) m d)
days_from_civil-number (negsuc n) m d h low = absurd (omega (arith, signed_arith))
days_from_civil-number (pos y) m d h low =
    omega (arith, signed_arith, days_from_civil-day_count (pos y) m d, day_count-number y m d (omega (arith, signed_arith)) h.1.0 h.1.1 h.2.0)

-- the first day of the calendar
pub epoch_day-first : (a : Date) → IsYmd (pos 1) (pos 1) (pos 1) a → epoch_day a ≡ neg_ℤ (pos 719162)
epoch_day-first a first =
    let month : a.month ≡ 1 = omega (arith, signed_arith, first.1) in
    let day : a.day ≡ 1 = omega (arith, signed_arith, first.2) in
    rw (first.0, month, day) (omega (arith, signed_arith, days_from_civil-day_count (pos 1) 1 1, first_day))

-- a date so many days after it lies in the year 1 or later
pub year_after_first : (d : Date) (n : ℕ) → epoch_day d ≡ neg_ℤ (pos 719162) +ℤ pos n → pos 1 ≤ℤ d.year
year_after_first d n e =
    by_lt_z d.year (pos 1)
    (λ lt. absurd (omega (arith, signed_arith, days_from_civil-day_count d.year d.month d.day, day_count-lt_year d.year d.month d.day (pos 1) 1 1 (civil d) (omega arith) lt, first_day)))
    (λ ge. ge)

-- a date so many days after it is the date that so many days lie before
pub date_after_first : (d : Date) (n : ℕ) → epoch_day d ≡ neg_ℤ (pos 719162) +ℤ pos n → IsNumbered Gregorian n (record { year = unsigned_abs d.year; month = d.month; day = d.day })
date_after_first d n e =
    let low = year_after_first d n e in
    record {
      date = date_of_civil d.year d.month d.day (civil d) low;
      number_is = omega (arith, signed_arith, days_from_civil-number d.year d.month d.day (civil d) low);
    }

-- a span of days on the first day
pub epoch_day-added : (first d : Date) (n : ℕ) (z : ℤ) (s : Span) → IsYmd (pos 1) (pos 1) (pos 1) first → z ≡ pos n → IsOnly Day z s → epoch_day d ≡ date_add first s → epoch_day d ≡ neg_ℤ (pos 719162) +ℤ pos n
epoch_day-added first d n z s ymd is only added =
    added ∙ date_add-days first z s only ∙ (λ i. epoch_day-first first ymd i +ℤ is i)
