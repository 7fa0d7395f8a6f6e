use Rattle.std.proofs.Common.{◌∙◌, refl, sym, inl, inr}
use Rattle.std.proofs.lemmas.Result.{IfOk-weaker}
use Rattle.cpl_calendar.proofs.TextsFacts.{InTime-Shows, InTime-small, Shows-Spells, read_time-Shows, read_time-Spells, read_time-none}
use Rattle.cpl_calendar.proofs.moments.moment.Goals as goal

pub returns-in-None : goal.returns-in-None
returns-in-None c =
    let text = c.args.text.now in
    let none = c.in-None.ensures.missing in
    let value = sym (read_time-none c.args.cal text none) in
    record {
      form = λ p spells. absurd (none p spells);
      other = inr refl;
      value = value;
      within = tt;
      small = tt;
      shows = tt;
      again = λ m shown. value ∙ read_time-Shows c.args.cal text m shown;
    }

pub returns-in-Some : goal.returns-in-Some
returns-in-Some c =
    let cal = c.args.cal in
    let text = c.args.text.now in
    let p = c.in-Some.parts in
    let spells = c.in-Some.ensures.found in
    let value = c.moment_or_fault.ensures ∙ sym (read_time-Spells cal text p spells) in
    let shows = rw (sym c.moment_or_fault.ensures) at (Shows-Spells cal text p spells) in
    let within = IfOk-weaker c.moment_or_fault.result _ _ (InTime-Shows cal text) shows in
    record {
      form = λ q spelled. value ∙ read_time-Spells cal text q spelled;
      other = inl (p, spells);
      value = value;
      within = within;
      small = IfOk-weaker c.moment_or_fault.result _ _ (InTime-small cal) within;
      shows = shows;
      again = λ m shown. value ∙ read_time-Shows cal text m shown;
    }
