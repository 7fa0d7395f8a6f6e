use Rattle.std.proofs.Common.{◌≡◌, ap, subst, ◌∙◌, List, option_and_then, option_copied}
use Rattle.cpl_config.specs.declared.entry.Entry.{Entry}
use Rattle.cpl_config.specs.Items.{row_in, value_under}
use Rattle.cpl_config.specs.Kept.{item_at}
use Rattle.cpl_config.proofs.KeptFacts.{first_under-at}
use Rattle.cpl_config.proofs.items.Items.value.Goals as goal

pub returns-in_err-item-clause-value : goal.returns-in_err-item-clause-value
returns-in_err-item-clause-value c =
    let label = c.args.label.now in
    let inside = c.self.inside in
    let place = option_copied c.get.result in
    let P : List Entry → Type 0 = λ entries. option_and_then row_in (item_at entries place) ≡ value_under label entries in
    let found : P c.args.self.now = subst P c.self.view_is (first_under-at row_in label inside.entries.items inside.values.entries place c.self.invariant.values_are c.get.ensures.value) in
    ap option_copied c.from_residual.ensures ∙ ap (option_and_then row_in) c.in_err-item.ensures ∙ found

pub returns-clause-value : goal.returns-clause-value
returns-clause-value c =
    let label = c.args.label.now in
    let inside = c.self.inside in
    let place = option_copied c.get.result in
    let P : List Entry → Type 0 = λ entries. option_and_then row_in (item_at entries place) ≡ value_under label entries in
    let found : P c.args.self.now = subst P c.self.view_is (first_under-at row_in label inside.entries.items inside.values.entries place c.self.invariant.values_are c.get.ensures.value) in
    c.row_in.ensures ∙ ap (option_and_then row_in) c.in_ok-item.ensures ∙ found
