-- The days before a month: year by year, and in order.
use Rattle.std.proofs.Common.{◌≡◌, ℕ, zero, suc, ◌+◌, ◌*◌, ◌/◌, ◌%◌, ◌<◌, ◌≤◌, cond, refl, sym, ap, ◌∙◌, arith, add-one, zero-add, [], ◌∷◌, get_or}
use Rattle.std.proofs.lemmas.Bool.Decides.{nat_tests}
use Rattle.cpl_calendar.specs.Calendar.{days_before, is_leap, common_length, month_length, numbered_length}
use Rattle.cpl_calendar.specs.Parts.{days_of_years}
use Rattle.cpl_calendar.specs.declared.calendar.Cal.{Cal}
use Rattle.cpl_calendar.specs.declared.calendar.Cal.TheVariants.{Gregorian, NoLeap, Day360}

-- no month is before the first
pub days_before-zero : (cal : Cal) → days_before cal 0 ≡ 0
unfolding days_before
days_before-zero cal = refl

-- one month more
pub days_before-suc : (cal : Cal) (n : ℕ) → days_before cal (n + 1) ≡ days_before cal n + numbered_length cal n
unfolding days_before
days_before-suc cal n = rw add-one

-- a month's number gives the length of that month
pub numbered_length-at : (cal : Cal) (y k : ℕ) → k < 12 → numbered_length cal (12 * y + k) ≡ month_length cal (suc y) (suc k)
numbered_length-at cal y k h =
    let year : (12 * y + k) / 12 + 1 ≡ suc y = omega arith in
    let month : (12 * y + k) % 12 + 1 ≡ suc k = omega arith in
    rw (year, month) refl

-- ---- year by year

-- the days of the months of a year up to the kth
abbrev pub in_year : Cal → ℕ → ℕ → ℕ
in_year cal year zero = 0
in_year cal year (suc k) = in_year cal year k + month_length cal year (suc k)

-- a common year has 365 days, and a leap year one more
pub gregorian_year : (y : ℕ) → in_year Gregorian y 12 ≡ 365 + cond (is_leap y) 1 0
gregorian_year y = grind arith

-- a year more, in each calendar
pub days_of_years-suc : (cal : Cal) (y : ℕ) → days_of_years cal (suc y) ≡ days_of_years cal y + in_year cal (suc y) 12
days_of_years-suc Gregorian y = rw (gregorian_year (suc y)) (grind (arith, nat_tests))
days_of_years-suc NoLeap y = omega arith
days_of_years-suc Day360 y = omega arith

-- the months of a year, on top of the years before
pub from_year : (cal : Cal) (y k : ℕ) → k ≤ 12 → days_before cal (12 * y + k) ≡ days_before cal (12 * y) + in_year cal (suc y) k
from_year cal y zero h = let same : 12 * y + 0 ≡ 12 * y = omega arith in rw same (omega arith)
from_year cal y (suc k) h =
    let next : 12 * y + suc k ≡ 12 * y + k + 1 = omega arith in
    let before = from_year cal y k (omega arith) in
    let more = days_before-suc cal (12 * y + k) in
    let length_is = numbered_length-at cal y k (omega arith) in
    rw (next, more, before, length_is) (omega arith)

-- whole years
pub whole_years : (cal : Cal) (y : ℕ) → days_before cal (12 * y) ≡ days_of_years cal y
whole_years Gregorian zero = days_before-zero Gregorian
whole_years NoLeap zero = days_before-zero NoLeap
whole_years Day360 zero = days_before-zero Day360
whole_years cal (suc y) =
    let next : 12 * suc y ≡ 12 * y + 12 = omega arith in
    rw next (from_year cal y 12 (omega arith) ∙ ap (λ d. d + in_year cal (suc y) 12) (whole_years cal y) ∙ sym (days_of_years-suc cal y))

-- the days before a month, in closed form
pub days_before-at : (cal : Cal) (n : ℕ) → days_before cal n ≡ days_of_years cal (n / 12) + in_year cal (suc (n / 12)) (n % 12)
days_before-at cal n =
    let split : n ≡ 12 * (n / 12) + n % 12 = omega arith in
    ap (days_before cal) split ∙ from_year cal (n / 12) (n % 12) (omega arith) ∙ ap (λ d. d + in_year cal (suc (n / 12)) (n % 12)) (whole_years cal (n / 12))

-- ---- calendars whose years are all alike

-- months of 30 days
pub days_before-Day360 : (n : ℕ) → days_before Day360 n ≡ 30 * n
unfolding days_before
days_before-Day360 zero = refl
days_before-Day360 (suc n) = omega (arith, days_before-Day360 n)

-- the months of each common year are those of the first
in_year-common : (y k : ℕ) → in_year NoLeap y k ≡ in_year NoLeap 1 k
in_year-common y zero = refl
in_year-common y (suc k) = ap (λ d. d + common_length (suc k)) (in_year-common y k)

-- common years, and months on top of them
pub days_before-NoLeap : (y k : ℕ) → k ≤ 12 → days_before NoLeap (12 * y + k) ≡ 365 * y + days_before NoLeap k
days_before-NoLeap y k h =
    let same : 12 * 0 + k ≡ k = omega arith in
    let first : days_before NoLeap k ≡ in_year NoLeap 1 k = sym (ap (days_before NoLeap) same) ∙ from_year NoLeap 0 k h ∙ ap (λ d. d + in_year NoLeap 1 k) (days_before-zero NoLeap) ∙ zero-add (in_year NoLeap 1 k) in
    from_year NoLeap y k h ∙ ap (λ d. d + in_year NoLeap (suc y) k) (whole_years NoLeap y) ∙ ap (λ d. 365 * y + d) (in_year-common (suc y) k ∙ sym first)

-- the table of the days before each month of a common year
pub starts : (k : ℕ) → k < 12 → get_or (0 ∷ 31 ∷ 59 ∷ 90 ∷ 120 ∷ 151 ∷ 181 ∷ 212 ∷ 243 ∷ 273 ∷ 304 ∷ 334 ∷ []) k 0 ≡ days_before NoLeap k
unfolding days_before
starts zero h = refl
starts (suc zero) h = refl
starts (suc (suc zero)) h = refl
starts (suc (suc (suc zero))) h = refl
starts (suc (suc (suc (suc zero)))) h = refl
starts (suc (suc (suc (suc (suc zero))))) h = refl
starts (suc (suc (suc (suc (suc (suc zero)))))) h = refl
starts (suc (suc (suc (suc (suc (suc (suc zero))))))) h = refl
starts (suc (suc (suc (suc (suc (suc (suc (suc zero)))))))) h = refl
starts (suc (suc (suc (suc (suc (suc (suc (suc (suc zero))))))))) h = refl
starts (suc (suc (suc (suc (suc (suc (suc (suc (suc (suc zero)))))))))) h = refl
starts (suc (suc (suc (suc (suc (suc (suc (suc (suc (suc (suc zero))))))))))) h = refl
starts (suc (suc (suc (suc (suc (suc (suc (suc (suc (suc (suc (suc n)))))))))))) h = absurd (omega arith)

-- the days of the years 1 to 9999
pub all_days-Gregorian : days_before Gregorian 119988 ≡ 3652059
all_days-Gregorian = days_before-at Gregorian 119988

-- the same of common years
pub all_days-NoLeap : days_before NoLeap 119988 ≡ 3649635
all_days-NoLeap = days_before-at NoLeap 119988

-- the same of years of 360 days
pub all_days-Day360 : days_before Day360 119988 ≡ 3599640
all_days-Day360 = days_before-at Day360 119988

-- no calendar has more days
pub all_days_le : (cal : Cal) → days_before cal 119988 ≤ 3652059
all_days_le Gregorian = omega (arith, all_days-Gregorian)
all_days_le NoLeap = omega (arith, all_days-NoLeap)
all_days_le Day360 = omega (arith, all_days-Day360)
