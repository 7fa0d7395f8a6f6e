use Rattle.std.proofs.Common.{◌≡◌, ◌∙◌, ap, arith, pos, ◌+ℤ◌, refl, unsigned_abs, FitsSigned, w32, to_z-of_z}
use Rattle.jiff_core.specs.Date.{epoch_day}
use Rattle.jiff_core.proofs.DateLemmas.{civil}
use Rattle.jiff_core.proofs.SignedLemmas.{signed_arith}
use Rattle.cpl_calendar.specs.Calendar.{date_number}
use Rattle.cpl_calendar.specs.declared.calendar.Cal.TheVariants.{Gregorian}
use Rattle.cpl_calendar.proofs.JiffDays.{days_from_civil-number}
use Rattle.cpl_calendar.proofs.gregorian.days_before_date.Goals as goal

pub overflow_cast-result : goal.overflow_cast-result
overflow_cast-result c =
    let d = c.args.date in
    let z = c.to_unix_epoch_day.result in
    let day_is : z ≡ epoch_day d = c.to_unix_epoch_day.ensures.value ∙ ap epoch_day c.to_plain.ensures in
    let bound = c.to_unix_epoch_day.ensures.bound in
    let number : z +ℤ pos 719162 ≡ pos (date_number Gregorian (unsigned_abs d.year) d.month d.day) = rw day_is (days_from_civil-number d.year d.month d.day (civil d) c.requires) in
    let fits : FitsSigned w32 z = omega (arith, signed_arith) in
    let fits_sum : FitsSigned w32 (pos (date_number Gregorian (unsigned_abs d.year) d.month d.day)) = rw (← number) (omega (arith, signed_arith)) in
    rw (to_z-of_z fits, number, to_z-of_z fits_sum) (tt, omega (arith, signed_arith))

pub returns : goal.returns
returns c =
    let d = c.args.date in
    let z = c.to_unix_epoch_day.result in
    let day_is : z ≡ epoch_day d = c.to_unix_epoch_day.ensures.value ∙ ap epoch_day c.to_plain.ensures in
    let bound = c.to_unix_epoch_day.ensures.bound in
    let number : z +ℤ pos 719162 ≡ pos (date_number Gregorian (unsigned_abs d.year) d.month d.day) = rw day_is (days_from_civil-number d.year d.month d.day (civil d) c.requires) in
    let fits : FitsSigned w32 z = omega (arith, signed_arith) in
    let fits_sum : FitsSigned w32 (pos (date_number Gregorian (unsigned_abs d.year) d.month d.day)) = rw (← number) (omega (arith, signed_arith)) in
    rw (to_z-of_z fits, number, to_z-of_z fits_sum) refl
