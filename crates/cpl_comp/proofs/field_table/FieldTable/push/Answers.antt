use Rattle.std.proofs.Common.{◌≡◌, ◌++◌, ◌∷◌, [], false, ap, ◌∙◌, rules}
use Rattle.cpl_comp.specs.FieldRows.{has_field}
use Rattle.cpl_comp.proofs.NameTableFacts.{HasNames-push}
use Rattle.cpl_comp.proofs.field_table.FieldTable.push.Goals as goal

pub invariant_of-self-2 : goal.invariant_of-self-2
invariant_of-self-2 c =
    let inside = c.self.inside in
    let fresh : has_field c.args.row.name inside.rows.items ≡ false = ap (has_field c.args.row.name) c.self.view_is ∙ c.requires in
    let pushed : c.push.new.self.items ≡ inside.rows.items ++ c.args.row ∷ [] = search rules in
    rw pushed (HasNames-push inside.names.keys c.insert.new.self.keys inside.rows.items c.in_ok-name.name c.args.row c.self.invariant (c.in_ok-name.ensures.items ∙ c.bytes.ensures) fresh (c.in_ok-insert.ensures.keys))
