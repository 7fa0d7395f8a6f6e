use Rattle.std.proofs.Common.{ap, sym, ◌∙◌}
use Rattle.std.specs.List.{before_first}
use Rattle.cpl_text.specs.Lines.{begins_comment}
use Rattle.cpl_text.proofs.LinesFacts.{before_first-None, before_first-Some}
use Rattle.cpl_text.proofs.text_lines.content_of.Goals as goal

pub returns-in-Some : goal.returns-in-Some
returns-in-Some c =
    before_first-Some begins_comment c.without_return-line.result.now c.in-Some.place (sym c.in-Some.ensures) ∙ ap (before_first begins_comment) c.without_return-line.ensures

pub returns-in-None : goal.returns-in-None
returns-in-None c =
    before_first-None begins_comment c.without_return-line.result.now (sym c.in-None.ensures) ∙ ap (before_first begins_comment) c.without_return-line.ensures
