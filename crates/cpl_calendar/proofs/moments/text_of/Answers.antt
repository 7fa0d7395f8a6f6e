use Rattle.std.proofs.Common.{◌∙◌, ap, sym, to_z-of_z, FitsSigned, w64}
use Rattle.cpl_calendar.specs.Texts.{Shows, text_of_parts}
use Rattle.cpl_calendar.proofs.TextsFacts.{read_time-Shows}
use Rattle.cpl_calendar.proofs.moments.text_of.Goals as goal

pub returns : goal.returns
returns c =
    let fits : FitsSigned w64 c.args.moment = c.ranges.moment in
    let found = simp to_z-of_z at c.parts.ensures in
    let shown : Shows c.args.cal c.write_form.result c.args.moment = record {
      parts = c.parts.result;
      is_time = found.time;
      moment_is = found.value;
      text_is = c.write_form.ensures;
    } in
    record {
      shows = shown;
      unique = λ text s. s.text_is ∙ ap text_of_parts (found.unique s.parts s.is_time s.moment_is) ∙ sym c.write_form.ensures;
      read = read_time-Shows c.args.cal c.write_form.result c.args.moment shown;
    }
