use Rattle.std.proofs.Common.{ap, ◌∙◌}
use Rattle.cpl_comp.specs.FieldRows.{has_field}
use Rattle.cpl_comp.proofs.NameTableFacts.{has_field-kept}
use Rattle.cpl_comp.proofs.field_table.FieldTable.has_field.Goals as goal

pub returns : goal.returns
returns c =
    let inside = c.self.inside in
    c.contains.ensures ∙ has_field-kept c.args.name.now inside.names.keys inside.rows.items c.self.invariant
    ∙ ap (has_field c.args.name.now) c.self.view_is
