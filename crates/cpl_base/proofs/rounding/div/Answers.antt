use Rattle.std.proofs.Common.{◌≡◌, pos, ap, rules, ◌∙◌}
use Rattle.std.proofs.lemmas.Int.{to_z-of_z}
use Rattle.std.specs.Int.{w64}
use Rattle.cpl_base.proofs.RoundingFacts.{quotient_of-signed}
use Rattle.cpl_base.proofs.rounding.div.Goals as goal
use mir.Val.{SFits, of_z}

pub returns-clause-value : goal.returns-clause-value
returns-clause-value c =
    let fits_a = c.ranges.a in
    let fits_b = c.ranges.b in
    let fits : SFits w64 c.scaled.result = search rules in
    let nonzero : c.args.b ≡ pos 0 → ⊥ = λ e. c.if-b-eq0.false (ap (of_z w64) e) in
    to_z-of_z w64 c.scaled.result fits
    ∙ (simp to_z-of_z at c.scaled.ensures)
    ∙ quotient_of-signed c.args.a c.args.b c.unsigned_abs.result c.unsigned_abs-2.result nonzero (simp to_z-of_z at c.unsigned_abs.ensures.value) (simp to_z-of_z at c.unsigned_abs-2.ensures.value)
