use Rattle.std.proofs.Common.{◌+◌, ◌*◌, ◌∙◌, arith, sym}
use Rattle.cpl_calendar.specs.declared.times.Parts.{Parts}
use Rattle.cpl_calendar.proofs.TextsFacts.{Spells-places}
use Rattle.cpl_calendar.proofs.reading.read_form.Goals as goal

pub returns-then-is_form-clause-found : goal.returns-then-is_form-clause-found
returns-then-is_form-clause-found c =
    let text = c.args.text.now in
    let century = c.in_ok-century.ensures.found in
    let year = c.in_ok-year.ensures.found in
    let century_is = c.from.ensures in
    let year_is = c.from-2.ensures in
    let small = century.small in
    let small_too = year.small in
    let p : Parts = record {
      year = 100 * c.from.result + c.from-2.result;
      month = c.in_ok-number_after.field-0;
      day = c.in_ok-number_after-2.field-0;
      hour = c.in_ok-number_after-3.field-0;
      minute = c.in_ok-number_after-4.field-0;
      second = c.in_ok-number_after-5.field-0;
    } in
    Spells-places text p c.in_ok-century.century c.in_ok-year.year (omega arith) (sym c.is_form.ensures ∙ c.if-is_form.true)
    (omega arith) century year c.in_ok-number_after.ensures.found c.in_ok-number_after-2.ensures.found
    c.in_ok-number_after-3.ensures.found c.in_ok-number_after-4.ensures.found c.in_ok-number_after-5.ensures.found
