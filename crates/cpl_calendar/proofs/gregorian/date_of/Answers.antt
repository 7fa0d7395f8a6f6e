use Rattle.std.proofs.Common.{◌∙◌, ap, arith, ◌+ℤ◌, FitsSigned, w16, w64, to_z-of_z}
use Rattle.jiff.proofs.SpanFacts.{can_add-days}
use Rattle.jiff_core.specs.Calendar.{IsEpochDay}
use Rattle.jiff_core.specs.Date.{epoch_day}
use Rattle.jiff_core.proofs.SignedLemmas.{signed_arith}
use Rattle.cpl_calendar.proofs.JiffDays.{date_after_first, epoch_day-added, epoch_day-first, year_after_first}
use Rattle.cpl_calendar.proofs.Months.{all_days-Gregorian}
use Rattle.cpl_calendar.proofs.gregorian.date_of.Goals as goal

pub days-requires : goal.days-requires
days-requires c = omega (arith, signed_arith, all_days-Gregorian)

pub add-requires : goal.add-requires
add-requires c =
    let fits : FitsSigned w64 c.from.result = omega (arith, signed_arith) in
    let only = simp to_z-of_z at c.days.ensures in
    let first = epoch_day-first c.date-first.result c.date-first.ensures in
    let day : IsEpochDay (epoch_day c.date-first.result +ℤ c.from.result) = omega (arith, signed_arith, all_days-Gregorian) in
    (can_add-days c.date-first.result c.from.result c.days.result only).1 day

pub overflow_cast-result : goal.overflow_cast-result
overflow_cast-result c =
    let fits : FitsSigned w64 c.from.result = omega (arith, signed_arith) in
    let only = simp to_z-of_z at c.days.ensures in
    let d = c.to_plain-date.result in
    let added = ap epoch_day c.to_plain-date.ensures ∙ c.add.ensures in
    let day = epoch_day-added c.date-first.result d c.args.number c.from.result c.days.result c.date-first.ensures c.from.ensures only added in
    let year = year_after_first d c.args.number day in
    let high = (date_after_first d c.args.number day).date.year_high in
    let top = d.year_in in
    let small : FitsSigned w16 d.year = omega (arith, signed_arith) in
    rw (to_z-of_z small) (omega (arith, signed_arith), omega arith)

pub returns : goal.returns
returns c =
    let fits : FitsSigned w64 c.from.result = omega (arith, signed_arith) in
    let only = simp to_z-of_z at c.days.ensures in
    let d = c.to_plain-date.result in
    let added = ap epoch_day c.to_plain-date.ensures ∙ c.add.ensures in
    let day = epoch_day-added c.date-first.result d c.args.number c.from.result c.days.result c.date-first.ensures c.from.ensures only added in
    let top = d.year_in in
    let small : FitsSigned w16 d.year = omega (arith, signed_arith) in
    rw (to_z-of_z small) (date_after_first d c.args.number day)
