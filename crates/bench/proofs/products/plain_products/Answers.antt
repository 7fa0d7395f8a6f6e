use Rattle.std.proofs.Common.{◌≡◌, ◌≤◌, ◌^◌, ◌*ℤ◌, ◌-◌, FitsSigned, ℤ, pos, get_or, unsigned_abs, arith, ap, ◌∙◌}
use Rattle.std.proofs.lemmas.Int.{fits_signed_mul, ints, to_z-of_z, unsigned_abs-mul}
use Rattle.std.proofs.lemmas.Nat.{mul-le}
use Rattle.std.specs.Int.{w64, w128}
use Rattle.cpl_base.specs.Numbers.{IsValue, greatest}
use Rattle.bench.proofs.products.plain_products.Goals as goal
use mir.Val.{of_z, to_z}

-- a value, as the code widens it
widened : (x u : ℤ) → x ≡ to_z w64 (of_z w64 u) → IsValue u → to_z w128 (of_z w128 x) ≡ u
widened x u is value = omega (arith, ints)

-- a product of two values
bounded : (x y u v : ℤ) → x ≡ to_z w64 (of_z w64 u) → y ≡ to_z w64 (of_z w64 v) → IsValue u → IsValue v → unsigned_abs (to_z w128 (of_z w128 (to_z w128 (of_z w128 x) *ℤ to_z w128 (of_z w128 y)))) ≤ 2 ^ 120
bounded x y u v is_x is_y at_u at_v =
    let a = widened x u is_x at_u in
    let b = widened y v is_y at_v in
    let fits : FitsSigned w128 (u *ℤ v) = fits_signed_mul w128 u v greatest greatest at_u at_v (omega arith) in
    let whole : to_z w128 (of_z w128 (to_z w128 (of_z w128 x) *ℤ to_z w128 (of_z w128 y))) ≡ u *ℤ v =
    (λ j. to_z w128 (of_z w128 (a j *ℤ b j))) ∙ to_z-of_z w128 (u *ℤ v) fits in
    let small = mul-le (unsigned_abs u) (unsigned_abs v) greatest greatest at_u at_v in
    omega (arith, ap unsigned_abs whole, unsigned_abs-mul u v, small)

pub plain_near-sum-requires-clause-number : goal.plain_near-sum-requires-clause-number
plain_near-sum-requires-clause-number c =
    bounded _ _ (get_or c.args.values.now (c.loop-i.i - 1) (pos 0)) (get_or c.args.values.now c.loop-i.i (pos 0)) c.from.ensures c.from-in-loop-i.ensures (c.requires (c.loop-i.i - 1) (pos 0) (omega arith)) (c.requires c.loop-i.i (pos 0) (omega arith))
