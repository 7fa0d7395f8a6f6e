use Rattle.std.proofs.Common.{length, arith}
use Rattle.std.proofs.lemmas.Int.{ints, to_z-of_z}
use Rattle.std.specs.Int.{w64}
use Rattle.cpl_sweep.specs.Kernels.{IsSpread}
use Rattle.cpl_sweep.specs.Strips.{strip_value}
use Rattle.cpl_sweep.proofs.StripsFacts.{IsStrip-spread}
use Rattle.cpl_sweep.proofs.filling.fill_from.Goals as goal
use mir.Val.{SFits}

pub returns-in-Number : goal.returns-in-Number
returns-in-Number c =
    let stands = c.in-Number.ensures in
    let is = stands.is in
    let fits : SFits w64 c.in-Number.number = omega (arith, ints, is) in
    let spread : IsSpread c.in-Number.number c.spread.new.these = rw (to_z-of_z w64 c.in-Number.number fits) at c.spread.ensures in
    IsStrip-spread (strip_value c.args.inputs.now c.args.tree.now) c.in-Number.number (length c.args.these.now) c.spread.new.these c.spread.auto.these stands.each spread
