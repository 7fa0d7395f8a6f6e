use Rattle.std.proofs.Common.{◌∙◌, sym, arith, ap, ◌+◌}
use Rattle.cpl_route.proofs.OwnedFacts.{pets-at, pets-count}
use Rattle.cpl_route.proofs.parts.pet_at.Goals as goal

pub overflow_cast-result : goal.overflow_cast-result
overflow_cast-result c =
    let pets = c.pets.ensures.layout.pets in
    omega (arith, pets-count c.args.decomp.now)

pub overflow_add-result : goal.overflow_add-result
overflow_add-result c =
    let pets = c.pets.ensures.layout.pets in
    let first = c.first_pet.ensures.value in
    omega (arith, pets-count c.args.decomp.now)

pub returns-clause-value : goal.returns-clause-value
returns-clause-value c =
    ap (λ n. n + c.args.place) c.first_pet.ensures.value ∙ sym (pets-at c.args.decomp.now c.args.place c.requires)

pub returns-clause-pet : goal.returns-clause-pet
returns-clause-pet c =
    let first = c.first_pet.ensures.value in
    let count = pets-count c.args.decomp.now in
    record { from_first = omega arith; within = omega arith }
