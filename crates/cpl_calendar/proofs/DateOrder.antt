-- Dates and moments in their order: no two times have one moment, and each lies before the end of time.
use Rattle.std.proofs.Common.{◌≡◌, ℕ, zero, suc, ◌+◌, ◌-◌, ◌*◌, ◌<◌, ◌≤◌, inl, inr, refl, sym, ap, ◌∙◌, arith, Some, ℤ, pos, ◌/◌, ◌%◌}
use Rattle.std.proofs.lemmas.Bool.{cases_order, le-leb}
use Rattle.cpl_calendar.specs.Calendar.{days_before, date_number, month_number, month_length, numbered_length, moment_of, end_of_time, number_if_any, IsDate, IsTime}
use Rattle.cpl_calendar.specs.Dates.{IsMonthAt, IsNumbered}
use Rattle.cpl_calendar.specs.declared.calendar.Cal.{Cal}
use Rattle.cpl_calendar.specs.declared.calendar.Cal.TheVariants.{Gregorian, NoLeap, Day360}
use Rattle.cpl_calendar.specs.declared.times.Parts.{Parts}
use Rattle.cpl_calendar.proofs.Months.{days_before-Day360, days_before-NoLeap, days_before-suc, numbered_length-at}

-- k months later no fewer days have passed
days_before-add : (cal : Cal) (n k : ℕ) → days_before cal n ≤ days_before cal (n + k)
days_before-add cal n zero = let same : n + 0 ≡ n = omega arith in rw same (omega arith)
days_before-add cal n (suc k) =
    let next : n + suc k ≡ n + k + 1 = omega arith in
    rw next (omega (arith, days_before-add cal n k, days_before-suc cal (n + k)))

-- later months have no fewer days before them
pub days_before_mono : (cal : Cal) (n later : ℕ) → n ≤ later → days_before cal n ≤ days_before cal later
days_before_mono cal n later h =
    let same : n + (later - n) ≡ later = omega arith in
    rw same at (days_before-add cal n (later - n))

-- a month's own number gives its length
pub numbered_length-own : (cal : Cal) (y m : ℕ) → 1 ≤ y → 1 ≤ m → m ≤ 12 → numbered_length cal (month_number y m) ≡ month_length cal y m
numbered_length-own cal y m year low high =
    let y_is : suc (y - 1) ≡ y = omega arith in
    let m_is : suc (m - 1) ≡ m = omega arith in
    rw (y_is, m_is) at (numbered_length-at cal (y - 1) (m - 1) (omega arith))

-- a month has at most 31 days
pub month_length-le : (cal : Cal) (y m : ℕ) → month_length cal y m ≤ 31
month_length-le Gregorian y m = grind arith
month_length-le NoLeap y m = grind arith
month_length-le Day360 y m = omega arith

-- a date lies before each later month
pub date_number-lt : (cal : Cal) (y m d later : ℕ) → IsDate cal y m d → month_number y m < later → date_number cal y m d < days_before cal later
date_number-lt cal y m d later date lt =
    let own = numbered_length-own cal y m date.year_low date.month_low date.month_high in
    let next = days_before-suc cal (month_number y m) in
    let after = days_before_mono cal (month_number y m + 1) later (omega arith) in
    omega arith

-- and so before the end of time
pub date_number-end : (cal : Cal) (y m d : ℕ) → IsDate cal y m d → date_number cal y m d < days_before cal (12 * 9999)
date_number-end cal y m d date = date_number-lt cal y m d (12 * 9999) date (omega arith)

-- What two dates with as many days before them have in common.
pub record SameDate (y m d y₂ m₂ d₂ : ℕ) : Type 0 where
  pub year : y ≡ y₂
  pub month : m ≡ m₂
  pub day : d ≡ d₂

-- two dates with as many days before them are one
pub date_number_injective : (cal : Cal) (y m d y₂ m₂ d₂ : ℕ) → IsDate cal y m d → IsDate cal y₂ m₂ d₂ → date_number cal y m d ≡ date_number cal y₂ m₂ d₂ → SameDate y m d y₂ m₂ d₂
date_number_injective cal y m d y₂ m₂ d₂ a b e =
    elim (cases_order (month_number y m) (month_number y₂ m₂)) [
      | inl same ↦ let sum = ap (days_before cal) same in record { year = omega arith; month = omega arith; day = omega arith }
      | inr (inl lt) ↦ absurd (omega (arith, date_number-lt cal y m d (month_number y₂ m₂) a lt))
      | inr (inr gt) ↦ absurd (omega (arith, date_number-lt cal y₂ m₂ d₂ (month_number y m) b gt))
    ]

-- ---- moments

-- a time lies before the end
pub moment_of-lt : (cal : Cal) (p : Parts) → IsTime cal p → moment_of cal p < end_of_time cal
moment_of-lt cal p time =
    let before = date_number-end cal p.year p.month p.day time.date in
    let hour = time.hour in let minute = time.minute in let second = time.second in
    omega arith

-- parts that agree one by one are the same
pub same_parts : (p q : Parts) → p.year ≡ q.year → p.month ≡ q.month → p.day ≡ q.day → p.hour ≡ q.hour → p.minute ≡ q.minute → p.second ≡ q.second → p ≡ q
same_parts p q year month day hour minute second = λ i. record {
  year = year i;
  month = month i;
  day = day i;
  hour = hour i;
  minute = minute i;
  second = second i;
}

-- a number of seconds, out of its sign
from_pos : (a b : ℕ) → pos a ≡ pos b → a ≡ b
from_pos a b e = cc

-- two times with one moment are one
moment_of_injective : (cal : Cal) (p q : Parts) → IsTime cal p → IsTime cal q → moment_of cal p ≡ moment_of cal q → p ≡ q
moment_of_injective cal p q a b e =
    let hour = a.hour in let minute = a.minute in let second = a.second in
    let hour₂ = b.hour in let minute₂ = b.minute in let second₂ = b.second in
    let days : date_number cal p.year p.month p.day ≡ date_number cal q.year q.month q.day = omega arith in
    let date = date_number_injective cal p.year p.month p.day q.year q.month q.day a.date b.date days in
    same_parts p q date.year date.month date.day (omega arith) (omega arith) (omega arith)

-- times with one moment are one
pub IsTime-unique : (cal : Cal) (p q : Parts) (m : ℤ) → IsTime cal p → IsTime cal q → pos (moment_of cal p) ≡ m → pos (moment_of cal q) ≡ m → p ≡ q
IsTime-unique cal p q m a b e f = moment_of_injective cal p q a b (from_pos (moment_of cal p) (moment_of cal q) (e ∙ sym f))

-- ---- the days before a date, as the code counts them

-- a day that the month has gives the days before the date
pub number_if_any-some : (cal : Cal) (y m d n : ℕ) → 1 ≤ d → d ≤ month_length cal y m → n ≡ date_number cal y m d → Some n ≡ number_if_any cal y m d
number_if_any-some cal y m d n low high e = rw (le-leb 1 d low, le-leb d (month_length cal y m) high, e) refl

-- the days before a date of years of 360 days
pub date_number-Day360 : (y m d : ℕ) → date_number Day360 y m d ≡ 30 * month_number y m + (d - 1)
date_number-Day360 y m d = ap (λ n. n + (d - 1)) (days_before-Day360 (month_number y m))

-- the days before a date of common years
pub date_number-NoLeap : (y m d : ℕ) → m ≤ 12 → date_number NoLeap y m d ≡ 365 * (y - 1) + days_before NoLeap (m - 1) + (d - 1)
date_number-NoLeap y m d h = ap (λ n. n + (d - 1)) (days_before-NoLeap (y - 1) (m - 1) (omega arith))

-- the date of a day among years of 360 days
pub date_at-Day360 : (n : ℕ) → n < 3599640 → IsNumbered Day360 n (record { year = n / 360 + 1; month = n / 30 % 12 + 1; day = n % 30 + 1 })
date_at-Day360 n h = record {
  date = record {
    year_low = omega arith;
    year_high = omega arith;
    month_low = omega arith;
    month_high = omega arith;
    day_low = omega arith;
    day_high = omega arith;
  };
  number_is = date_number-Day360 (n / 360 + 1) (n / 30 % 12 + 1) (n % 30 + 1) ∙ omega arith;
}

-- the date of a day among common years, where the month has that day of the year
pub date_at-NoLeap : (n m : ℕ) → n < 3649635 → IsMonthAt (n % 365) m → IsNumbered NoLeap n (record { year = n / 365 + 1; month = m; day = n % 365 - days_before NoLeap (m - 1) + 1 })
date_at-NoLeap n m h at =
    let y = n / 365 + 1 in
    let low = at.low in
    let high = at.high in
    let begun = at.begun in
    let m_is : suc (m - 1) ≡ m = omega arith in
    let next_is : m - 1 + 1 ≡ m = omega arith in
    let length_is = rw next_is at (days_before-suc NoLeap (m - 1)) in
    let own = rw m_is at (numbered_length-at NoLeap 0 (m - 1) (omega arith)) in
    let first : 12 * 0 + (m - 1) ≡ m - 1 = omega arith in
    let own_is = rw first at own in
    let last = at.not_over in
    record {
      date = record {
        year_low = omega arith;
        year_high = omega arith;
        month_low = low;
        month_high = high;
        day_low = omega arith;
        day_high = omega arith;
      };
      number_is = date_number-NoLeap y m (n % 365 - days_before NoLeap (m - 1) + 1) high ∙ omega arith;
    }
