-- Sums of products.
use Rattle.std.proofs.Common.{◌≡◌, ℤ, ◌+ℤ◌, ◌*ℤ◌, List, [], ◌∷◌, ◌++◌, ◌*◌, ◌^◌, ◌≤◌, length, unsigned_abs, arith}
use Rattle.std.proofs.lemmas.Int.{ints}
use Rattle.std.proofs.lemmas.Int.{unsigned_abs-mul}
use Rattle.std.proofs.lemmas.List.Elements.{All-head, All-tail}
use Rattle.std.proofs.lemmas.Nat.{mul-le}
use Rattle.std.specs.List.{All}
use Rattle.cpl_base.specs.Numbers.{greatest}
use Rattle.cpl_mediator.specs.Merges.{IsTerm, sum_of_products}

-- one more term
pub sum_of_products-push : (terms : List (ℤ × ℤ)) (term : ℤ × ℤ) → sum_of_products (terms ++ term ∷ []) ≡ sum_of_products terms +ℤ (term.0 *ℤ term.1)
sum_of_products-push [] term = omega (arith, ints)
sum_of_products-push (first ∷ terms) term =
    let rest = sum_of_products-push terms term in
    omega (arith, ints, rest)

-- the sum of so many products of values
pub sum_of_products-small : (terms : List (ℤ × ℤ)) → All IsTerm terms → unsigned_abs (sum_of_products terms) ≤ length terms * 10 ^ 30
sum_of_products-small [] all = omega arith
sum_of_products-small (term ∷ terms) all =
    let is = All-head IsTerm term terms all in
    let product = unsigned_abs-mul term.0 term.1 in
    let small : unsigned_abs term.0 * unsigned_abs term.1 ≤ 10 ^ 30 = mul-le (unsigned_abs term.0) (unsigned_abs term.1) greatest greatest is.value is.factor in
    let rest = sum_of_products-small terms (All-tail IsTerm term terms all) in
    omega (arith, ints, product, small, rest)
