use Rattle.std.proofs.Common.{rules, ap, ◌∙◌}
use Rattle.std.proofs.lemmas.Int.{to_z-of_z}
use Rattle.std.specs.Int.{w64}
use Rattle.cpl_block.specs.Frames.{values_in}
use Rattle.cpl_block.specs.Totals as block
use Rattle.cpl_serial.proofs.EndFacts.{end-active}
use Rattle.cpl_serial.proofs.ends.field_end.Goals as goal
use mir.Syntax.{w128}
use mir.Val.{SFits}

pub returns : goal.returns
returns c = λ layout world same stamped holds.
    let low_fits : SFits w64 c.least.result = search rules in
    let high_fits : SFits w64 c.greatest.result = search rules in
    let sum_fits : SFits w128 c.sum.result = search rules in
    let lent = c.values-values.ensures in
    end-active c.args.frame.now c.args.field.now layout world c.args.stamp _ _ _ c.whole_laws.ensures same stamped holds
    (to_z-of_z w64 c.least.result low_fits ∙ c.least.ensures ∙ ap (λ field. block.least_of (values_in c.args.frame.now field)) lent)
    (to_z-of_z w64 c.greatest.result high_fits ∙ c.greatest.ensures ∙ ap (λ field. block.greatest_of (values_in c.args.frame.now field)) lent)
    (to_z-of_z w128 c.sum.result sum_fits ∙ c.sum.ensures ∙ ap (λ field. block.total_of (values_in c.args.frame.now field)) lent)
