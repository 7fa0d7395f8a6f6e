use Rattle.std.proofs.Common.{arith}
use Rattle.cpl_calendar.proofs.DateOrder.{date_number-Day360, number_if_any-some}
use Rattle.cpl_calendar.specs.declared.calendar.Cal.TheVariants.{Day360}
use Rattle.cpl_calendar.proofs.day360.number_of.Goals as goal

pub returns : goal.returns
returns c =
    let d = c.args.date in
    let asked = c.requires in
    let low = c.if-date-lt1.false in
    let high = c.if-date-gt30.false in
    number_if_any-some Day360 d.year d.month d.day _ (omega arith) (omega arith) (omega (arith, date_number-Day360 d.year d.month d.day))
