use Rattle.std.proofs.Common.{◌≡◌, ◌*ℤ◌, ◌∙◌, arith, rules, lit<}
use Rattle.std.proofs.lemmas.Int.{fits_signed_mul, ints, to_z-of_z}
use Rattle.std.specs.Int.{w64}
use Rattle.cpl_base.specs.Numbers.{clip}
use Rattle.cpl_sweep.proofs.WholeFacts.{product_of-whole}
use Rattle.cpl_sweep.proofs.joining.WholeStep.step.Goals as goal
use mir.Val.{SFits}

pub returns-clause-value : goal.returns-clause-value
returns-clause-value c =
    let a = c.args.a in
    let factor = c.args.self.now.factor in
    let small = c.args.self.now.small in
    let fits : SFits w64 c.clamp.result = search rules in
    let fits_a : SFits w64 a = search rules in
    let fits_factor : SFits w64 factor = omega (arith, ints, small) in
    let fits_product : SFits w64 (a *ℤ factor) = fits_signed_mul w64 a factor 1000000000000000 9000 c.requires small (lit< tt) in
    let value : c.clamp.result ≡ clip (a *ℤ factor) = simp to_z-of_z at c.clamp.ensures.value in
    to_z-of_z w64 c.clamp.result fits ∙ value ∙ product_of-whole a factor
