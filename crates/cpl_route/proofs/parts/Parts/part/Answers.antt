use Rattle.std.proofs.Common.{◌≡◌, ◌+◌, ◌<◌, arith}
use Rattle.cpl_grid.specs.Owners.{pets_in}
use Rattle.cpl_route.proofs.parts.Parts.part.Goals as goal

pub returns-clause-is_part : goal.returns-clause-is_part
returns-clause-is_part c =
    let first = c.first_pet.ensures.value in
    let from = c.requires.pet.from_first in
    let within = c.requires.pet.within in
    let place = c.from.ensures in
    let inside : c.from.result < pets_in c.args.decomp.now = omega arith in
    let back : c.args.decomp.now.first_pet + c.from.result ≡ c.args.pet = omega arith in
    rw (c.requires.parts.each c.from.result _ inside, back) (c.decomposition_laws.ensures.parts c.args.pet c.requires.pet)
