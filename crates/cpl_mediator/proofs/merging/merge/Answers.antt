use Rattle.std.proofs.Common.{◌≡◌, ◌+ℤ◌, ◌*ℤ◌, take, get_or, pos, arith, ◌∙◌, sym, ap, rules}
use Rattle.std.proofs.lemmas.Int.{ints, to_z-of_z}
use Rattle.std.proofs.lemmas.List.{take_more, length-take-le}
use Rattle.std.proofs.lemmas.List.Elements.{All-get_or, All-take}
use Rattle.std.specs.Int.{w64, w128}
use Rattle.cpl_mediator.specs.Merges.{IsTerm, sum_of_products}
use Rattle.cpl_mediator.proofs.MergesFacts.{sum_of_products-push, sum_of_products-small}
use Rattle.cpl_mediator.proofs.merging.merge.Goals as goal
use mir.Val.{SFits, of_z, to_z}

pub overflow_add-sum : goal.overflow_add-sum
overflow_add-sum c =
    let small = sum_of_products-small (take c.loop-value.value-index c.args.terms.now) (All-take IsTerm c.loop-value.value-index c.args.terms.now c.requires.terms) in
    let count = length-take-le c.loop-value.value-index c.args.terms.now (omega arith) in
    let sum = c.loop-value.invariant in
    omega (arith, ints, small, count, sum, c.product-sum.ensures.small)

pub loop-value-preserved : goal.loop-value-preserved
loop-value-preserved c =
    let fits = overflow_add-sum c in
    let term = get_or c.args.terms.now c.loop-value.value-index (pos 0, pos 0) in
    let is = All-get_or IsTerm c.args.terms.now c.loop-value.value-index (pos 0, pos 0) (omega arith) c.requires.terms in
    let value : SFits w64 term.0 = omega (arith, ints, is.value) in
    let factor : SFits w64 term.1 = omega (arith, ints, is.factor) in
    let fits_product : SFits w128 c.product-sum.result = search rules in
    let product : c.product-sum.result ≡ term.0 *ℤ term.1 = simp to_z-of_z at c.product-sum.ensures.value in
    let next = take_more c.args.terms.now c.loop-value.value-index (pos 0, pos 0) (omega arith) in
    to_z-of_z w128 (to_z w128 c.loop-value.sum-bits +ℤ to_z w128 (of_z w128 c.product-sum.result)) fits
    ∙ ap (λ x. to_z w128 c.loop-value.sum-bits +ℤ x) (to_z-of_z w128 c.product-sum.result fits_product ∙ product)
    ∙ ap (λ x. x +ℤ (term.0 *ℤ term.1)) c.loop-value.invariant
    ∙ sym (sum_of_products-push (take c.loop-value.value-index c.args.terms.now) term)
    ∙ sym (ap sum_of_products next)

pub near-requires-clause-number : goal.near-requires-clause-number
near-requires-clause-number c =
    let small = sum_of_products-small (take c.loop-value.value-index c.args.terms.now) (All-take IsTerm c.loop-value.value-index c.args.terms.now c.requires.terms) in
    let count = length-take-le c.loop-value.value-index c.args.terms.now (omega arith) in
    let sum = c.loop-value.invariant in
    omega (arith, ints, small, count, sum)
