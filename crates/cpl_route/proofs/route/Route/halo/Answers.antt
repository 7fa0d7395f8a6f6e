use Rattle.std.proofs.Common.{arith, ap, ◌∙◌, length}
use Rattle.cpl_route.specs.Routes.{halo_route, pets_of}
use Rattle.cpl_route.proofs.OwnedFacts.{pets-count}
use Rattle.cpl_route.proofs.RouteFacts.{pets-bytes, pets-rising, route-ranked}
use Rattle.cpl_route.proofs.TableFacts.{legs-all}
use Rattle.cpl_route.proofs.route.Route.halo.Goals as goal

pub total_of-room-requires-clause-few : goal.total_of-room-requires-clause-few
total_of-room-requires-clause-few c =
    let count = ap (λ d. length (pets_of d)) c.halo_of-halo.ensures.decomp ∙ pets-count c.args.decomp.now in
    let pets = c.pets.ensures.layout.pets in
    omega arith

pub route_with-requires-clause-ranked : goal.route_with-requires-clause-ranked
route_with-requires-clause-ranked c =
    let layout = c.pets.ensures.layout in
    rw (legs-all _ _ _ c.in_ok-table.ensures, c.halo_of-halo.ensures.decomp)
    (route-ranked c.args.decomp.now _ (pets_of c.args.decomp.now) (pets-rising c.args.decomp.now) (pets-bytes c.args.decomp.now layout))

pub returns : goal.returns
returns c =
    c.in_ok-route.ensures ∙ legs-all _ _ _ c.in_ok-table.ensures
    ∙ (λ i. halo_route (c.halo_of-halo.ensures.decomp i) (c.halo_of-halo.ensures.offsets i))
