use Rattle.std.proofs.Common.{rules, ap, arith, ◌∙◌}
use Rattle.std.proofs.lemmas.Int.{to_z-of_z}
use Rattle.std.specs.Int.{w64}
use Rattle.cpl_comp.specs.Worlds.{cell_value}
use Rattle.cpl_script.specs.Transfers.{weighted_value}
use Rattle.cpl_serial.proofs.ImageFacts.{image-next}
use Rattle.cpl_serial.proofs.imaging.take_rows.Goals as goal
use mir.Val.{SFits}

pub loop-k-preserved : goal.loop-k-preserved
loop-k-preserved c =
    let fits : SFits w64 c.row_image.result = search rules in
    let same = to_z-of_z w64 c.row_image.result fits in
    let inside = c.loop-k-test.true in
    let count = c.loop-k.invariant.0.count in
    let is = c.row_image.ensures.value ∙ ap (weighted_value (cell_value c.args.source.now)) c.row.ensures.value in (
      rw same
          (image-next c.args.table.now c.args.source.now c.args.image.now c.loop-k.image c.loop-k.k c.row_image.result (omega (arith, inside, count)) c.row_image.ensures.within is c.loop-k.invariant.0),
      c.row_image.ensures.gathered ∙ c.loop-k.invariant.1,
    )
