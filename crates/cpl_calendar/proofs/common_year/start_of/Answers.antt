use Rattle.std.proofs.Common.{◌<◌, ◌∙◌, ap, arith}
use Rattle.cpl_calendar.specs.Calendar.{days_before}
use Rattle.cpl_calendar.specs.declared.calendar.Cal.TheVariants.{NoLeap}
use Rattle.cpl_calendar.proofs.Months.{starts}
use Rattle.cpl_calendar.proofs.common_year.start_of.Goals as goal

pub returns : goal.returns
returns c =
    let place = c.from.ensures in
    let asked = c.requires in
    let inside : c.from.result < 12 = omega arith in
    starts c.from.result inside ∙ ap (days_before NoLeap) place
