use Rattle.std.proofs.Common.{◌≡◌, ◌+ℤ◌, ◌/◌, pos, ◌∙◌, arith, rules}
use Rattle.std.proofs.lemmas.Int.{ints, to_z-of_z}
use Rattle.std.specs.Int.{int_div_euclid, w64}
use Rattle.cpl_mediator.proofs.NearFacts.{near_of-division}
use Rattle.cpl_mediator.proofs.sums.narrow_average.Goals as goal
use mir.Val.{SFits, of_z, to_z}

pub returns : goal.returns
returns c =
    let fits : SFits w64 c.div_euclid.result = search rules in
    let above : to_z w64 (of_z w64 (to_z w64 (of_z w64 c.args.sum) +ℤ to_z w64 (of_z w64 c.from.result))) ≡ c.args.sum +ℤ pos (c.args.count / 2) = omega (arith, ints) in
    let below : to_z w64 (of_z w64 c.from-2.result) ≡ pos c.args.count = omega (arith, ints) in
    to_z-of_z w64 c.div_euclid.result fits
    ∙ c.div_euclid.ensures
    ∙ (λ i. int_div_euclid (above i) (below i))
    ∙ near_of-division c.args.sum c.args.count c.requires.some
