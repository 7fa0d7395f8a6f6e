-- The functions that tell when an alarm rings meet the relations: whole intervals, and the first seconds of months.
use Rattle.std.proofs.Common.{◌≡◌, ℕ, ◌+◌, ◌-◌, ◌*◌, ◌/◌, ◌%◌, ◌<◌, ◌≤◌, ◌↔◌, sym, ap, ◌∙◌, arith, ℤ, pos, negsuc, ◌-ℤ◌, ◌+ℤ◌, ◌<ℤ◌, ◌≤ℤ◌, inl, inr, IsTrue, eqb, leb}
use Rattle.std.specs.Prelude.{int_rem}
use Rattle.std.specs.Ordering.{int_eq}
use Rattle.std.proofs.Math.Nat.{mul-mod_left}
use Rattle.std.proofs.lemmas.Bool.{and_from, and_parts, cases_lt, eqb-true, le-leb, leb-true}
use Rattle.std.proofs.lemmas.Bool.Decides.{Decides-int_eq}
use Rattle.std.proofs.lemmas.Int.{ints}
use Rattle.cpl_calendar.specs.Calendar.{InTime, IsTime, days_before, end_of_time, moment_of, month_length, month_number}
use Rattle.cpl_calendar.specs.Parts.{parts_at}
use Rattle.cpl_calendar.specs.declared.calendar.Cal.{Cal}
use Rattle.cpl_calendar.specs.declared.calendar.Cal.TheVariants.{Gregorian, NoLeap, Day360}
use Rattle.cpl_calendar.specs.declared.times.Parts.{Parts}
use Rattle.cpl_calendar.proofs.DateOrder.{IsTime-unique, days_before_mono}
use Rattle.cpl_calendar.proofs.PartsFacts.{parts_at-IsTimeAt}
use Rattle.cpl_clock.specs.Alarm.{IsMonthBegin, IsRegular, Rings, RingsEvery, is_month_begin, is_ringing, is_ringing_every}
use Rattle.cpl_clock.specs.declared.alarm.Alarm.{Alarm}
use Rattle.cpl_clock.specs.declared.alarm.Alarm.TheVariants.{Every, Monthly}

-- a number of seconds, out of its sign
pub from_pos : (a b : ℕ) → pos a ≡ pos b → a ≡ b
from_pos a b e = cc

-- ---- whole intervals

-- the seconds since the first ring, where it is over
since_first : (f s : ℕ) → f ≤ s → pos s -ℤ pos f ≡ pos (s - f)
since_first f s h = omega (arith, ints)

-- whole intervals after the first ring
is_ringing_every-RingsEvery : (first interval seconds : ℤ) → pos 0 ≤ℤ first → pos 1 ≤ℤ interval → pos 0 ≤ℤ seconds → IsTrue (is_ringing_every first interval seconds) ↔ RingsEvery first interval seconds
is_ringing_every-RingsEvery (negsuc f) n s low some asked = absurd (omega (arith, ints))
is_ringing_every-RingsEvery (pos f) (negsuc n) s low some asked = absurd (omega (arith, ints))
is_ringing_every-RingsEvery (pos f) (pos n) (negsuc s) low some asked = absurd (omega (arith, ints))
is_ringing_every-RingsEvery (pos f) (pos n) (pos s) low some asked =
    let rest = int_rem (pos s -ℤ pos f) (pos n) in
    let positive : 0 < n = omega (arith, ints) in (
      λ t. let both = and_parts (leb f s) (int_eq rest (pos 0)) t in
          let over = leb-true f s both.0 in
          let rest_is = (Decides-int_eq rest (pos 0)).0 both.1 in
          let none : (s - f) % n ≡ 0 = from_pos ((s - f) % n) 0 (rw (since_first f s over) at rest_is) in
          ((s - f) / n, ap pos (omega arith)),
      λ (k, e). let sum = from_pos (f + k * n) s e in
          let over : f ≤ s = omega arith in
          let whole : k * n ≡ s - f = omega arith in
          let none : (s - f) % n ≡ 0 = ap (λ t. t % n) (sym whole) ∙ mul-mod_left k n in
          let rest_is : rest ≡ pos 0 = rw (since_first f s over) (ap pos none) in
          and_from (leb f s) (int_eq rest (pos 0)) (le-leb f s over) ((Decides-int_eq rest (pos 0)).1 rest_is),
    )

-- ---- first seconds of months

-- each month has a first day
month_length-ge : (cal : Cal) (y m : ℕ) → 1 ≤ month_length cal y m
month_length-ge Gregorian y m = grind arith
month_length-ge NoLeap y m = grind arith
month_length-ge Day360 y m = omega arith

-- the parts of the first second of the month of a number
abbrev first_second : ℕ → Parts
first_second n = record {
  year = n / 12 + 1;
  month = n % 12 + 1;
  day = 1;
  hour = 0;
  minute = 0;
  second = 0;
}

-- which the calendar has, where it has the month
first_second-time : (cal : Cal) (n : ℕ) → n < 119988 → IsTime cal (first_second n)
first_second-time cal n h = record {
  date = record {
    year_low = omega arith;
    year_high = omega arith;
    month_low = omega arith;
    month_high = omega arith;
    day_low = omega arith;
    day_high = month_length-ge cal (n / 12 + 1) (n % 12 + 1);
  };
  hour = omega arith;
  minute = omega arith;
  second = omega arith;
}

-- and whose moment whole months lie before
first_second-moment : (cal : Cal) (n : ℕ) → moment_of cal (first_second n) ≡ 86400 * days_before cal n
first_second-moment cal n =
    let number : month_number (n / 12 + 1) (n % 12 + 1) ≡ n = omega arith in
    rw number (omega arith)

-- a month that begins before the end of time is one of the calendar's
month_in_time : (cal : Cal) (n : ℕ) → 86400 * days_before cal n < end_of_time cal → n < 119988
month_in_time cal n h =
    elim (cases_lt n 119988) [
      | inl lt ↦ lt
      | inr ge ↦ absurd (omega (arith, days_before_mono cal 119988 n ge))
    ]

-- the numbers of a moment tell whether it is the first second of a month
is_month_begin-IsMonthBegin : (cal : Cal) (m : ℤ) → InTime cal m → IsTrue (is_month_begin (parts_at cal m)) ↔ IsMonthBegin cal m
is_month_begin-IsMonthBegin cal m time =
    let p = parts_at cal m in
    let at = parts_at-IsTimeAt cal m time in
    let begun = time.begun in
    let value : pos (moment_of cal p) ≡ m = omega (arith, ints, at.moment_is) in (
      λ t. let second = and_parts _ (eqb p.second 0) t in
          let minute = and_parts _ (eqb p.minute 0) second.0 in
          let hour = and_parts (eqb p.day 1) (eqb p.hour 0) minute.0 in
          let day_is = eqb-true p.day 1 hour.0 in let hour_is = eqb-true p.hour 0 hour.1 in
          let minute_is = eqb-true p.minute 0 minute.1 in let second_is = eqb-true p.second 0 second.1 in
          (month_number p.year p.month, sym value ∙ ap pos (omega arith)),
      λ (n, e). let inside = time.not_over in
          let before : pos (86400 * days_before cal n) <ℤ pos (end_of_time cal) = rw e at inside in
          let is : first_second n ≡ p = IsTime-unique cal (first_second n) p m (first_second-time cal n (month_in_time cal n (omega (arith, ints)))) at.is_time (ap pos (first_second-moment cal n) ∙ sym e) value in
          ap is_month_begin (sym is),
    )

-- ---- alarms

-- the function tells exactly when an alarm rings
pub is_ringing-Rings : (alarm : Alarm) (cal : Cal) (start seconds : ℤ) → IsRegular alarm → pos 0 ≤ℤ seconds → InTime cal (start +ℤ seconds) → IsTrue (is_ringing alarm cal start seconds) ↔ Rings alarm cal start seconds
is_ringing-Rings (Every first interval) cal start seconds regular asked within = is_ringing_every-RingsEvery first interval seconds regular.0 regular.1 asked
is_ringing-Rings Monthly cal start seconds regular asked within = is_month_begin-IsMonthBegin cal (start +ℤ seconds) within
