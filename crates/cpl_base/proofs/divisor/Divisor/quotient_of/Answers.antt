use Rattle.std.proofs.Common.{◌*◌, ◌<◌, ap, arith, rules, ◌∙◌}
use Rattle.std.proofs.lemmas.Int.{to_z-of_z}
use Rattle.std.specs.Int.{w64}
use Rattle.cpl_base.specs.Rounding.{quotient_of}
use Rattle.cpl_base.proofs.RoundingFacts.{quotient_of-positive}
use Rattle.cpl_base.proofs.divisor.Divisor.quotient_of.Goals as goal
use mir.Val.{SFits}

pub returns-clause-value : goal.returns-clause-value
returns-clause-value c =
    let fits_a = c.ranges.a in
    let fits : SFits w64 c.signed_quotient.result = search rules in
    let by = 1000 * c.self.inside.thousandths in
    let some : 0 < by = omega (arith, c.self.invariant.some) in
    to_z-of_z w64 c.signed_quotient.result fits
    ∙ (simp to_z-of_z at c.signed_quotient.ensures)
    ∙ quotient_of-positive c.args.a c.unsigned_abs.result by some (simp to_z-of_z at c.unsigned_abs.ensures.value)
    ∙ ap (quotient_of c.args.a) c.self.view_is
