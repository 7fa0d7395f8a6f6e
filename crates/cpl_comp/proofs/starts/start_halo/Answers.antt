use Rattle.std.proofs.Common.{◌++◌, ◌∙◌, sym, ap, List}
use Rattle.std.specs.Option.{option_to_list}
use Rattle.cpl_comp.specs.declared.component.Field.{Field}
use Rattle.cpl_comp.specs.declared.component.Rule.{Rule}
use Rattle.cpl_comp.proofs.HaloFacts.{filter_map-take}
use Rattle.cpl_comp.proofs.starts.start_halo.Goals as goal

pub loop-field-preserved : goal.loop-field-preserved
loop-field-preserved c =
    let field = c.field-item.result in
    c.in_ok-push_start.ensures ∙ ap (λ (rules : List Rule). rules ++ option_to_list field.start) c.loop-field.invariant
    ∙ sym (filter_map-take (λ (f : Field). f.start) c.args.fields.now c.loop-field.field-index field c.loop-field-test.true c.field-item.is)
