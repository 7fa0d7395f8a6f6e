use Rattle.std.proofs.Common.{ap, sym, subst, ◌∙◌}
use Rattle.cpl_comp.specs.RowForms.{row_form}
use Rattle.cpl_comp.specs.Scopes.{HasShortWords}
use Rattle.cpl_comp.proofs.ShortRowFacts.{row_form-short}
use Rattle.cpl_comp.proofs.phase_rows.read_row.Goals as goal

pub read_form-requires-clause-short : goal.read_form-requires-clause-short
read_form-requires-clause-short c =
    subst HasShortWords (sym (c.row_form-form.ensures ∙ ap row_form c.items.ensures)) (row_form-short c.args.row.now.words c.requires.short)
