use Rattle.std.proofs.Common.{◌≡◌, ◌<◌, ◌^◌, ◌-ℤ◌, ℕ, pos, neg_ℤ, ◌∙◌, arith}
use Rattle.std.proofs.lemmas.Grind.{common_steps}
use Rattle.std.proofs.lemmas.Int.{ints, to_z-of_z}
use Rattle.std.specs.Int.{w128}
use Rattle.cpl_base.proofs.RoundingFacts.{near_of-below}
use Rattle.cpl_base.proofs.rounding.near.Goals as goal
use mir.Val.{of_z, to_z}

-- what the code's minus gives
negated : (size : ℕ) → size < 2 ^ 127 → to_z w128 (of_z w128 (pos 0 -ℤ to_z w128 size)) ≡ neg_ℤ (pos size)
negated size small = omega (arith, ints)

pub returns-then-minus-clause-value : goal.returns-then-minus-clause-value
returns-then-minus-clause-value c =
    let size = c.nearest-size.result in
    let small : size < 2 ^ 127 = grind (arith, common_steps) in
    let fits_n = c.ranges.n in
    let fits_d = c.ranges.d in
    negated size small
    ∙ near_of-below c.args.n c.args.d c.unsigned_abs.result c.unsigned_abs-2.result size (simp to_z-of_z at c.if-minus.true) c.requires.positive (simp to_z-of_z at c.unsigned_abs.ensures.value) (simp to_z-of_z at c.unsigned_abs-2.ensures.value) (simp to_z-of_z at c.nearest-size.ensures)
