use Rattle.std.proofs.Common.{◌≡◌, sym, ap, ◌∙◌, Ok}
use Rattle.cpl_grid.specs.Grid.{cells_in}
use Rattle.cpl_route.specs.Routes.{pets_of, redist_route}
use Rattle.cpl_route.proofs.RouteFacts.{answer-ok, pets-bytes, pets-rising, route-ranked}
use Rattle.cpl_route.proofs.TableFacts.{legs-all}
use Rattle.cpl_route.proofs.route.Route.redist.Goals as goal

pub route_with-requires-clause-ranked : goal.route_with-requires-clause-ranked
route_with-requires-clause-ranked c =
    let legs = legs-all _ _ _ c.in_ok-table.ensures in
    let dst = c.redist_between-redist.ensures.dst in
    let layout = c.grid-2.ensures.layout in
    rw (legs, dst) (route-ranked c.redist_between-redist.result.src.now _ (pets_of c.args.dst.now) (pets-rising c.args.dst.now) (pets-bytes c.args.dst.now layout))

pub returns : goal.returns
returns c =
    let have = c.cells-have.ensures ∙ ap cells_in c.grid.ensures.value in
    let want = c.cells-want.ensures ∙ ap cells_in c.grid-2.ensures.value in
    let same : cells_in c.args.src.now.grid ≡ cells_in c.args.dst.now.grid = sym have ∙ c.if-have-want.false ∙ want in
    let legs = legs-all _ _ _ c.in_ok-table.ensures in
    let route : c.in_ok-route.route ≡ redist_route c.args.src.now c.args.dst.now =
    c.in_ok-route.ensures ∙ legs ∙ (λ i. redist_route (c.redist_between-redist.ensures.src i) (c.redist_between-redist.ensures.dst i)) in
    record { value = answer-ok c.args.src.now c.args.dst.now same ∙ ap Ok (sym route); fault = tt }
