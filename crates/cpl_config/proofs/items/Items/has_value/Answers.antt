use Rattle.std.proofs.Common.{ap, ◌∙◌, is_some}
use Rattle.cpl_config.specs.Items.{row_in, value_under}
use Rattle.cpl_config.proofs.KeptFacts.{is_some-lookup}
use Rattle.cpl_config.proofs.items.Items.has_value.Goals as goal

pub returns : goal.returns
returns c =
    let inside = c.self.inside in
    c.contains_key.ensures
    ∙ is_some-lookup row_in c.args.label.now inside.entries.items inside.values.entries c.self.invariant.values_are
    ∙ ap (λ entries. is_some (value_under c.args.label.now entries)) c.self.view_is
