use Rattle.std.proofs.Common.{ap, ◌∙◌, is_some}
use Rattle.cpl_config.specs.Items.{table_in, table_under}
use Rattle.cpl_config.proofs.KeptFacts.{is_some-lookup}
use Rattle.cpl_config.proofs.items.Items.has_table.Goals as goal

pub returns : goal.returns
returns c =
    let inside = c.self.inside in
    c.contains_key.ensures
    ∙ is_some-lookup table_in c.args.label.now inside.entries.items inside.tables.entries c.self.invariant.tables_are
    ∙ ap (λ entries. is_some (table_under c.args.label.now entries)) c.self.view_is
