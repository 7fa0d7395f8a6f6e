use Rattle.std.proofs.Common.{◌∙◌, ◌+ℤ◌, arith, rules, pos}
use Rattle.std.proofs.lemmas.Int.{to_z-of_z}
use Rattle.std.specs.Int.{w128}
use Rattle.cpl_block.specs.Laws.{row_at_places}
use Rattle.cpl_block.proofs.TotalFacts.{fold-row}
use Rattle.cpl_block.proofs.totals.sum.Goals as goal
use mir.Val.{SFits}

pub loop-b-preserved : goal.loop-b-preserved
loop-b-preserved c =
    let fits : SFits w128 c.row_sum-total.result = search rules in
    let same = to_z-of_z w128 c.row_sum-total.result fits in
    let few = c.row_sum-total.ensures.few in
    let before = c.loop-b.invariant.1 in
    let count = c.row_values.ensures.count in (
      same
          ∙ fold-row ◌+ℤ◌ (pos 0) _ c.row_sum-total.result c.row_values.result.now (row_at_places c.args.frame.now c.args.field.now) c.loop-b.b c.loop-b.invariant.0 c.row_values.ensures.value c.row_sum-total.ensures.value,
      rw same (omega (arith, few, before, count)),
    )
