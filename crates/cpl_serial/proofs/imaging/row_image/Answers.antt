use Rattle.std.proofs.Common.{subst, sym}
use Rattle.std.specs.List.{All}
use Rattle.cpl_base.specs.Numbers.{IsValue}
use Rattle.cpl_serial.proofs.ImageFacts.{gathered-values}
use Rattle.cpl_serial.proofs.imaging.row_image.Goals as goal

pub apply_row-requires-clause-values : goal.apply_row-requires-clause-values
apply_row-requires-clause-values c =
    subst (All IsValue) (sym c.gather.ensures.values) (gathered-values c.args.row.now c.args.source.now c.requires.row c.requires.values)
