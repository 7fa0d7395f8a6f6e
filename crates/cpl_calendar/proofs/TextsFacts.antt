-- Texts of times: which numbers stand at their places, what a text is read as, and that reading undoes writing.
use Rattle.std.proofs.Common.{◌≡◌, ℕ, ◌+◌, ◌*◌, ◌/◌, ◌%◌, ◌^◌, inl, inr, true, false, refl, ap, ◌∙◌, arith, ◌&&◌, leb, eqb, if◌then◌else◌, List, length, Result, IfOk, Ok, Err, pos, ℤ, ◌<ℤ◌, ◌≤ℤ◌}
use Rattle.std.specs.Str.{bytes_eq}
use Rattle.std.proofs.lemmas.Bool.{and_parts, cases_Bool, false_from_ne_true, le-leb, leb-true, ne_eqb}
use Rattle.std.proofs.lemmas.Int.{ints}
use Rattle.std.proofs.lemmas.Result.{IfOk-weaker}
use Rattle.std.proofs.lemmas.Slice.Eq.{bytes_eq-Decides, text_from_reads}
use Rattle.cpl_calendar.specs.Calendar.{InTime, IsTime, end_of_time, has_day, moment_of, moment_or_fault, month_length}
use Rattle.cpl_calendar.specs.Places.{HasNumber, HasNumberAfter}
use Rattle.cpl_calendar.specs.Texts.{IsForm, Shows, Spells, is_form, number_at, parts_in, read_time, text_of_parts}
use Rattle.cpl_calendar.specs.declared.calendar.Cal.{Cal}
use Rattle.cpl_calendar.specs.declared.fault.TimeFault.{TimeFault}
use Rattle.cpl_calendar.specs.declared.fault.TimeFault.TheVariants.{BadTime}
use Rattle.cpl_calendar.specs.declared.times.Parts.{Parts}
use Rattle.cpl_calendar.proofs.DateOrder.{moment_of-lt, month_length-le, same_parts}
use Rattle.cpl_calendar.proofs.Months.{all_days_le}

-- ---- numbers at their places

-- What stands at the places of a text.
pub record HasParts (text : List ℕ) (p : Parts) : Type 0 where
  pub length_is : length text ≡ 19
  pub century : HasNumber text 0 (p.year / 100)
  pub year : HasNumber text 2 (p.year % 100)
  pub month : HasNumberAfter 45 text 4 p.month
  pub day : HasNumberAfter 45 text 7 p.day
  pub hour : HasNumberAfter 84 text 10 p.hour
  pub minute : HasNumberAfter 58 text 13 p.minute
  pub second : HasNumberAfter 58 text 16 p.second

-- what writing makes of parts has them at their places
HasParts-text_of_parts : (p : Parts) → IsForm p → HasParts (text_of_parts p) p
HasParts-text_of_parts p form =
    let year = form.year in let month = form.month_high in let day = form.day in let hour = form.hour in let minute = form.minute in let second = form.second in
    record {
      length_is = refl;
      century = record { tens = refl; ones = refl; small = omega arith };
      year = record { tens = refl; ones = refl; small = omega arith };
      month = record { separator_is = refl; number_is = record { tens = refl; ones = refl; small = omega arith } };
      day = record { separator_is = refl; number_is = record { tens = refl; ones = refl; small = omega arith } };
      hour = record { separator_is = refl; number_is = record { tens = refl; ones = refl; small = omega arith } };
      minute = record { separator_is = refl; number_is = record { tens = refl; ones = refl; small = omega arith } };
      second = record { separator_is = refl; number_is = record { tens = refl; ones = refl; small = omega arith } };
    }

-- a text has the parts that it spells at their places
pub Spells-HasParts : (text : List ℕ) (p : Parts) → Spells text p → HasParts text p
Spells-HasParts text p s = rw s.text_is (HasParts-text_of_parts p s.form)

-- a text that has parts at their places is what writing makes of them
pub HasParts-text : (text : List ℕ) (p : Parts) → HasParts text p → text ≡ text_of_parts p
HasParts-text text p h =
    let century = h.century in let year = h.year in
    let month = h.month.number_is in let day = h.day.number_is in
    let hour = h.hour.number_is in let minute = h.minute.number_is in let second = h.second.number_is in
    text_from_reads text (text_of_parts p) h.length_is (
      century.tens,
      (
        century.ones,
        (
          year.tens,
          (
            year.ones,
            (
              h.month.separator_is,
              (
                month.tens,
                (
                  month.ones,
                  (
                    h.day.separator_is,
                    (
                      day.tens,
                      (
                        day.ones,
                        (
                          h.hour.separator_is,
                          (
                            hour.tens,
                            (
                              hour.ones,
                              (
                                h.minute.separator_is,
                                (
                                  minute.tens,
                                  (
                                    minute.ones,
                                    (h.second.separator_is, (second.tens, (second.ones, tt))),
                                  ),
                                ),
                              ),
                            ),
                          ),
                        ),
                      ),
                    ),
                  ),
                ),
              ),
            ),
          ),
        ),
      ),
    )

-- the number at a place
number_at-HasNumber : (text : List ℕ) (place n : ℕ) → HasNumber text place n → number_at text place ≡ n
number_at-HasNumber text place n h = let tens = h.tens in let ones = h.ones in omega arith

-- the numbers at their places are the parts
pub parts_in-HasParts : (text : List ℕ) (p : Parts) → HasParts text p → parts_in text ≡ p
parts_in-HasParts text p h =
    let century = number_at-HasNumber text 0 (p.year / 100) h.century in
    let year = number_at-HasNumber text 2 (p.year % 100) h.year in
    same_parts (parts_in text) p (omega arith)
    (number_at-HasNumber text 5 p.month h.month.number_is)
    (number_at-HasNumber text 8 p.day h.day.number_is)
    (number_at-HasNumber text 11 p.hour h.hour.number_is)
    (number_at-HasNumber text 14 p.minute h.minute.number_is)
    (number_at-HasNumber text 17 p.second h.second.number_is)

-- ---- the form

-- the test of the form
pub is_form-IsForm : (p : Parts) → IsForm p → is_form p ≡ true
is_form-IsForm p form =
    rw (le-leb p.year 9999 form.year, le-leb 1 p.month form.month_low, le-leb p.month 12 form.month_high, le-leb p.day 99 form.day, le-leb p.hour 23 form.hour, le-leb p.minute 59 form.minute, le-leb p.second 59 form.second) refl

-- and what it tells
pub IsForm-is_form : (p : Parts) → is_form p ≡ true → IsForm p
IsForm-is_form p e =
    let second = and_parts _ (leb p.second 59) e in
    let minute = and_parts _ (leb p.minute 59) second.0 in
    let hour = and_parts _ (leb p.hour 23) minute.0 in
    let day = and_parts _ (leb p.day 99) hour.0 in
    let high = and_parts _ (leb p.month 12) day.0 in
    let low = and_parts (leb p.year 9999) (leb 1 p.month) high.0 in
    record {
      year = leb-true p.year 9999 low.0;
      month_low = leb-true 1 p.month low.1;
      month_high = leb-true p.month 12 high.1;
      day = leb-true p.day 99 day.1;
      hour = leb-true p.hour 23 hour.1;
      minute = leb-true p.minute 59 minute.1;
      second = leb-true p.second 59 second.1;
    }

-- a text that has the numbers of parts at their places spells these, where they are of the form
pub Spells-places : (text : List ℕ) (p : Parts) (century year : ℕ) → p.year ≡ 100 * century + year → is_form p ≡ true → length text ≡ 19 → HasNumber text 0 century → HasNumber text 2 year → HasNumberAfter 45 text 4 p.month → HasNumberAfter 45 text 7 p.day → HasNumberAfter 84 text 10 p.hour → HasNumberAfter 58 text 13 p.minute → HasNumberAfter 58 text 16 p.second → Spells text p
Spells-places text p century year sum form length_is c y month day hour minute second =
    let small = y.small in
    let century_is : century ≡ p.year / 100 = omega arith in
    let year_is : year ≡ p.year % 100 = omega arith in
    record {
      form = IsForm-is_form p form;
      text_is = HasParts-text text p (record {
        length_is = length_is;
        century = rw century_is at c;
        year = rw year_is at y;
        month = month;
        day = day;
        hour = hour;
        minute = minute;
        second = second;
      });
    }

-- ---- reading

-- a text that spells parts is read as their moment, or as the fault of these
pub read_time-Spells : (cal : Cal) (text : List ℕ) (p : Parts) → Spells text p → read_time cal text ≡ moment_or_fault cal p
unfolding read_time
read_time-Spells cal text p s =
    let numbers = parts_in-HasParts text p (Spells-HasParts text p s) in
    let same : bytes_eq text (text_of_parts p) ≡ true = (bytes_eq-Decides text (text_of_parts p)).1 s.text_is in
    let reading : Parts → Result ℤ TimeFault = λ q. if bytes_eq text (text_of_parts q) && is_form q then moment_or_fault cal q else Err BadTime in
    ap reading numbers ∙ rw (same, is_form-IsForm p s.form) refl

-- a text that spells no parts is no time
pub read_time-none : (cal : Cal) (text : List ℕ) → ((p : Parts) → ¬ Spells text p) → read_time cal text ≡ Err BadTime
unfolding read_time
read_time-none cal text none =
    let test = bytes_eq text (text_of_parts (parts_in text)) && is_form (parts_in text) in
    let fails : test ≡ false = false_from_ne_true test (λ e. let both = and_parts (bytes_eq text (text_of_parts (parts_in text))) (is_form (parts_in text)) e in
    none (parts_in text) (record { form = IsForm-is_form (parts_in text) both.1; text_is = (bytes_eq-Decides text (text_of_parts (parts_in text))).0 both.0 })) in
    rw fails refl

-- ---- moments

-- a time is of the form
IsForm-IsTime : (cal : Cal) (p : Parts) → IsTime cal p → IsForm p
IsForm-IsTime cal p time =
    let short = month_length-le cal p.year p.month in
    let date = time.date in
    record {
      year = date.year_high;
      month_low = date.month_low;
      month_high = date.month_high;
      day = omega arith;
      hour = time.hour;
      minute = time.minute;
      second = time.second;
    }

-- a time has its moment
moment_or_fault-IsTime : (cal : Cal) (p : Parts) → IsTime cal p → moment_or_fault cal p ≡ Ok (pos (moment_of cal p))
moment_or_fault-IsTime cal p time =
    let date = time.date in
    let year : eqb p.year 0 ≡ false = ne_eqb p.year 0 (omega arith) in
    rw (year, le-leb 1 p.day date.day_low, le-leb p.day (month_length cal p.year p.month) date.day_high) refl

-- parts that have a moment are a time
moment_or_fault-ok : (cal : Cal) (p : Parts) → IsForm p → IfOk (moment_or_fault cal p) (λ m. IsTime cal p × (pos (moment_of cal p) ≡ m))
moment_or_fault-ok cal p form =
    elim (cases_Bool (eqb p.year 0)) [
      | inl e ↦ rw e tt
      | inr some ↦ elim (cases_Bool (has_day cal p.year p.month p.day)) [
        | inr e ↦ rw (some, e) tt
        | inl e ↦ rw (some, e) (let day = and_parts (leb 1 p.day) (leb p.day (month_length cal p.year p.month)) e in (
          record {
            date = record {
              year_low = grind arith;
              year_high = form.year;
              month_low = form.month_low;
              month_high = form.month_high;
              day_low = leb-true 1 p.day day.0;
              day_high = leb-true p.day (month_length cal p.year p.month) day.1;
            };
            hour = form.hour;
            minute = form.minute;
            second = form.second;
          },
          refl,
        ))
      ]
    ]

-- parts that a text spells and that have a moment show it
pub Shows-Spells : (cal : Cal) (text : List ℕ) (p : Parts) → Spells text p → IfOk (moment_or_fault cal p) (Shows cal text)
Shows-Spells cal text p s =
    IfOk-weaker (moment_or_fault cal p) _ _ (λ m t. record { parts = p; is_time = t.0; moment_is = t.1; text_is = s.text_is }) (moment_or_fault-ok cal p s.form)

-- a moment that has a text lies in the calendar
pub InTime-Shows : (cal : Cal) (text : List ℕ) (m : ℤ) → Shows cal text m → InTime cal m
InTime-Shows cal text m s =
    let n = moment_of cal s.parts in
    let less = moment_of-lt cal s.parts s.is_time in
    let below : pos n <ℤ pos (end_of_time cal) = omega (arith, ints) in
    let above : pos 0 ≤ℤ pos n = omega (arith, ints) in
    rw (← s.moment_is) (record { begun = above; not_over = below })

-- and is small
pub InTime-small : (cal : Cal) (m : ℤ) → InTime cal m → m <ℤ pos (2 ^ 40)
InTime-small cal m h = let over = h.not_over in omega (arith, ints, all_days_le cal)

-- the text of a moment is read as that moment
pub read_time-Shows : (cal : Cal) (text : List ℕ) (m : ℤ) → Shows cal text m → read_time cal text ≡ Ok m
read_time-Shows cal text m s =
    read_time-Spells cal text s.parts (record { form = IsForm-IsTime cal s.parts s.is_time; text_is = s.text_is }) ∙ moment_or_fault-IsTime cal s.parts s.is_time ∙ ap (λ (n : ℤ). Ok n) s.moment_is
