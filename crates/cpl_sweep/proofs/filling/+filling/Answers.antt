use Rattle.std.proofs.Common.{length, arith, refl}
use Rattle.std.proofs.lemmas.Int.{ints, to_z-of_z}
use Rattle.std.specs.Int.{w64}
use Rattle.cpl_sweep.specs.Kernels.{IsMade}
use Rattle.cpl_sweep.specs.Operators.{made_of}
use Rattle.cpl_sweep.specs.Strips.{strip_value}
use Rattle.cpl_sweep.proofs.StripsFacts.{IsStrip-with_number}
use Rattle.cpl_sweep.proofs.filling.+filling.Goals as goal
use mir.Val.{SFits}

pub fill_two-returns-in-Number : goal.fill_two-returns-in-Number
fill_two-returns-in-Number t c =
    let stands = c.in-Number.ensures in
    let number = c.in-Number.number in
    let is = stands.is in
    let fits : SFits w64 number = omega (arith, ints, is) in
    let made : IsMade (λ a. made_of c.args.by a number) c.fill.new.these c.join_number.new.these = rw (to_z-of_z w64 number fits) at c.join_number.ensures in
    IsStrip-with_number (made_of c.args.by) (strip_value c.args.inputs.now c.args.a.now) (strip_value c.args.inputs.now c.args.b.now) number (length c.fill.new.these) c.fill.new.these c.join_number.new.these refl c.join_number.auto.these c.fill.ensures stands.each made
