use Rattle.std.proofs.Common.{arith}
use Rattle.cpl_calendar.proofs.DateOrder.{date_number-NoLeap, number_if_any-some}
use Rattle.cpl_calendar.specs.declared.calendar.Cal.TheVariants.{NoLeap}
use Rattle.cpl_calendar.proofs.common_year.number_of.Goals as goal

pub returns : goal.returns
returns c =
    let d = c.args.date in
    let asked = c.requires in
    let low = c.if-date-lt1.false in
    let high = c.if-date-length_of.false in
    let length_is = c.length_of.ensures in
    let year_is = c.from.ensures in
    let months_is = c.from-months.ensures in
    let start_is = c.start_of.ensures in
    let day_is = c.from-2.ensures in
    number_if_any-some NoLeap d.year d.month d.day _ (omega arith) (omega arith) (omega (arith, date_number-NoLeap d.year d.month d.day asked.month_high))
