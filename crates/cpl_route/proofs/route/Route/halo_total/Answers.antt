use Rattle.std.proofs.Common.{arith, ap, ◌∙◌, length}
use Rattle.cpl_route.specs.Routes.{pets_of}
use Rattle.cpl_route.proofs.OwnedFacts.{pets-count}
use Rattle.cpl_route.proofs.route.Route.halo_total.Goals as goal

pub total_of-requires-clause-few : goal.total_of-requires-clause-few
total_of-requires-clause-few c =
    let count = ap (λ d. length (pets_of d)) c.halo_of.ensures.decomp ∙ pets-count c.args.decomp.now in
    let pets = c.pets.ensures.layout.pets in
    omega arith
