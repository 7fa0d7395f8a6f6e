-- The six numbers of a moment are those of the one time that has the moment.
use Rattle.std.proofs.Common.{◌≡◌, ℕ, zero, suc, ◌+◌, ◌-◌, ◌*◌, ◌/◌, ◌%◌, ◌<◌, ◌≤◌, inl, inr, refl, ap, ◌∙◌, arith, add-one, leb, ltb, ℤ, unsigned_abs}
use Rattle.std.specs.List.{range_with_len}
use Rattle.std.proofs.lemmas.Bool.{cases_Bool, leb-true, leb-false, ltb-true, ltb-false}
use Rattle.std.proofs.lemmas.Int.{ints}
use Rattle.cpl_calendar.specs.Calendar.{InTime, IsTimeAt, date_number, days_before, month_length, month_number}
use Rattle.cpl_calendar.specs.Parts.{MonthDay, days_of_years, month_day, parts_at, years_before}
use Rattle.cpl_calendar.specs.declared.calendar.Cal.{Cal}
use Rattle.cpl_calendar.specs.declared.calendar.Cal.TheVariants.{Gregorian, NoLeap, Day360}
use Rattle.cpl_calendar.proofs.Months.{days_of_years-suc, from_year, in_year, whole_years}

-- ---- the year of a day

-- A day, counted from 0, lies in the year before which so many years are over.
record IsInYear (cal : Cal) (day years : ℕ) : Type 0 where
  begun : days_of_years cal years ≤ day
  not_over : day < days_of_years cal (years + 1)

-- the mean length of a year says the year of a day, or the one before
mean_low : (cal : Cal) (day mean : ℕ) → mean ≡ 400 * day / days_of_years cal 400 → days_of_years cal mean ≤ day
mean_low Gregorian day mean e = omega arith
mean_low NoLeap day mean e = omega arith
mean_low Day360 day mean e = omega arith

mean_high : (cal : Cal) (day mean : ℕ) → mean ≡ 400 * day / days_of_years cal 400 → day < days_of_years cal (mean + 2)
mean_high Gregorian day mean e = omega arith
mean_high NoLeap day mean e = omega arith
mean_high Day360 day mean e = omega arith

-- the years that are over before a day
years_before-IsInYear : (cal : Cal) (day : ℕ) → IsInYear cal day (years_before cal day)
years_before-IsInYear cal day =
    let mean = 400 * day / days_of_years cal 400 in
    let low = mean_low cal day mean refl in
    let high = mean_high cal day mean refl in
    elim (cases_Bool (leb (days_of_years cal (mean + 1)) day)) [
      | inl e ↦ rw e (record { begun = leb-true (days_of_years cal (mean + 1)) day e; not_over = let next : mean + 1 + 1 ≡ mean + 2 = omega arith in rw next high })
      | inr e ↦ rw e (record { begun = low; not_over = leb-false (days_of_years cal (mean + 1)) day e })
    ]

-- a day of the years 1 to 9999 has fewer years before it
IsInYear-few : (cal : Cal) (day years : ℕ) → IsInYear cal day years → day < days_of_years cal 9999 → years < 9999
IsInYear-few Gregorian day years at h = let begun = at.begun in omega arith
IsInYear-few NoLeap day years at h = let begun = at.begun in omega arith
IsInYear-few Day360 day years at h = let begun = at.begun in omega arith

-- ---- the month of a day of the year

-- The month and its day on the day that so many days of the year lie before.
record IsMonthDay (cal : Cal) (year days : ℕ) (d : MonthDay) : Type 0 where
  month_low : 1 ≤ d.month
  month_high : d.month ≤ 12
  day_low : 1 ≤ d.day
  day_high : d.day ≤ month_length cal year d.month
  days_is : in_year cal year (d.month - 1) + (d.day - 1) ≡ days

-- from a month on
month_day-from : (cal : Cal) (year k n days : ℕ) → k + n ≡ 12 → in_year cal year k + days < in_year cal year 12 → IsMonthDay cal year (in_year cal year k + days) (month_day cal year (range_with_len (suc k) n) days)
unfolding month_day
month_day-from cal year k zero days all h =
    let last : k ≡ 12 = omega arith in
    absurd (omega (arith, ap (in_year cal year) last))
month_day-from cal year k (suc n) days all h =
    let long = month_length cal year (suc k) in
    elim (cases_Bool (ltb days long)) [
      | inl e ↦ rw e (record { month_low = omega arith; month_high = omega arith; day_low = omega arith; day_high = let below = ltb-true days long e in omega arith; days_is = let before : suc k - 1 ≡ k = omega arith in rw before (omega arith) })
      | inr e ↦ rw e (
          let over = ltb-false days long e in
          let same : in_year cal year (suc k) + (days - long) ≡ in_year cal year k + days = omega arith in
          let next : suc k + 1 ≡ suc (suc k) = add-one (suc k) in
          rw (next, ← same) (month_day-from cal year (suc k) n (days - long) (omega arith) (omega arith)))
    ]

-- in the whole year
month_day-IsMonthDay : (cal : Cal) (year days : ℕ) → days < in_year cal year 12 → IsMonthDay cal year days (month_day cal year (range_with_len 1 12) days)
month_day-IsMonthDay cal year days h =
    let none : 0 + days ≡ days = omega arith in
    rw none at (month_day-from cal year 0 12 days refl (omega arith))

-- ---- the moment

-- the days before the date that has its month and day on a day of a year
date_number-IsMonthDay : (cal : Cal) (years days : ℕ) (d : MonthDay) → IsMonthDay cal (suc years) days d → date_number cal (suc years) d.month d.day ≡ days_of_years cal years + days
date_number-IsMonthDay cal years days d on =
    let low = on.month_low in let high = on.month_high in let days_is = on.days_is in
    let number : month_number (suc years) d.month ≡ 12 * years + (d.month - 1) = omega arith in
    let months = from_year cal years (d.month - 1) (omega arith) in
    let whole = whole_years cal years in
    let start : days_before cal (month_number (suc years) d.month) ≡ days_of_years cal years + in_year cal (suc years) (d.month - 1) = ap (days_before cal) number ∙ months ∙ ap (λ n. n + in_year cal (suc years) (d.month - 1)) whole in
    omega arith

-- the numbers from the year, the month and its day, and the time of day, are a time with so many seconds before it
IsTimeAt-numbers : (cal : Cal) (seconds years : ℕ) (d : MonthDay) → years < 9999 → days_of_years cal years ≤ seconds / 86400 → IsMonthDay cal (suc years) (seconds / 86400 - days_of_years cal years) d → IsTimeAt cal seconds (record { year = suc years; month = d.month; day = d.day; hour = seconds % 86400 / 3600; minute = seconds % 86400 / 60 % 60; second = seconds % 86400 % 60 })
IsTimeAt-numbers cal seconds years d few begun on =
    let number = date_number-IsMonthDay cal years (seconds / 86400 - days_of_years cal years) d on in
    record {
      is_time = record {
        date = record {
          year_low = omega arith;
          year_high = omega arith;
          month_low = on.month_low;
          month_high = on.month_high;
          day_low = on.day_low;
          day_high = on.day_high;
        };
        hour = omega arith;
        minute = omega arith;
        second = omega arith;
      };
      moment_is = omega arith;
    }

-- the numbers of a moment of the calendar are a time with that moment
pub parts_at-IsTimeAt : (cal : Cal) (moment : ℤ) → InTime cal moment → IsTimeAt cal (unsigned_abs moment) (parts_at cal moment)
unfolding parts_at
parts_at-IsTimeAt cal moment h =
    let begun = h.begun in let over = h.not_over in
    let seconds = unsigned_abs moment in
    let days = seconds / 86400 in
    let years = years_before cal days in
    let at = years_before-IsInYear cal days in
    let started = at.begun in let not_over = at.not_over in
    let few : days < days_of_years cal 9999 = omega (arith, ints, whole_years cal 9999) in
    let next : years + 1 ≡ suc years = add-one years in
    let long = days_of_years-suc cal years in
    let length_is = rw next at not_over in
    let on = month_day-IsMonthDay cal (suc years) (days - days_of_years cal years) (omega arith) in
    rw next (IsTimeAt-numbers cal seconds years (month_day cal (suc years) (range_with_len 1 12) (days - days_of_years cal years)) (IsInYear-few cal days years at few) started on)
