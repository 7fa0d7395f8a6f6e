use Rattle.std.proofs.Common.{◌∙◌, arith, rules, pos}
use Rattle.std.proofs.lemmas.Int.{to_z-of_z}
use Rattle.std.specs.Int.{int_max, w64}
use Rattle.cpl_block.specs.Frames.{first_of, value_at}
use Rattle.cpl_block.specs.Laws.{row_at_places}
use Rattle.cpl_block.proofs.TotalFacts.{fold-row, greatest-all}
use Rattle.cpl_block.proofs.totals.greatest.Goals as goal
use mir.Val.{SFits}

pub loop-b-preserved : goal.loop-b-preserved
loop-b-preserved c =
    let fits : SFits w64 c.row_greatest-greatest.result = search rules in
    to_z-of_z w64 c.row_greatest-greatest.result fits
    ∙ fold-row int_max (value_at c.args.field.now (first_of c.args.frame.now (pos 0) (pos 0))) _ c.row_greatest-greatest.result c.row_values.result.now (row_at_places c.args.frame.now c.args.field.now) c.loop-b.b c.loop-b.invariant c.row_values.ensures.value c.row_greatest-greatest.ensures

pub returns : goal.returns
returns c =
    greatest-all _ c.args.frame.now c.args.field.now c.loop-b.b c.requires.frame c.requires.places c.row_laws.ensures (omega (arith, c.loop-b-test.false, c.loop-b.auto.b-end)) c.loop-b.invariant
