use Rattle.std.proofs.Common.{rules, ap, ◌∙◌}
use Rattle.std.proofs.lemmas.Int.{to_z-of_z}
use Rattle.cpl_block.specs.Frames.{values_in}
use Rattle.cpl_block.specs.Totals as block
use Rattle.cpl_serial.proofs.EndFacts.{sum-active}
use Rattle.cpl_serial.proofs.ends.value_sum.Goals as goal
use mir.Syntax.{w128}
use mir.Val.{SFits}

pub returns : goal.returns
returns c = λ layout world same holds.
    let sum_fits : SFits w128 c.sum.result = search rules in
    let lent = c.values.ensures in
    sum-active c.args.frame.now c.args.field.now layout world _ c.whole_laws.ensures same holds
    (to_z-of_z w128 c.sum.result sum_fits ∙ c.sum.ensures ∙ ap (λ field. block.total_of (values_in c.args.frame.now field)) lent)
