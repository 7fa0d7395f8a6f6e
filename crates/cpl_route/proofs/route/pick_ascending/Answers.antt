use Rattle.std.proofs.Common.{◌∙◌}
use Rattle.cpl_route.specs.Routes.{pick_route, pickers_of}
use Rattle.cpl_route.proofs.PickFacts.{pickers-bytes, pickers-few, pickers-rising}
use Rattle.cpl_route.proofs.RouteFacts.{route-ranked}
use Rattle.cpl_route.proofs.TableFacts.{legs-all}
use Rattle.cpl_route.proofs.route.pick_ascending.Goals as goal

pub route_with-requires-clause-ranked : goal.route_with-requires-clause-ranked
route_with-requires-clause-ranked c =
    rw (legs-all _ _ _ c.in_ok-table.ensures)
    (route-ranked c.pick_of-pick.result.src.now _ (pickers_of c.pick_of-pick.result.needs.now) (pickers-rising c.pick_of-pick.result.needs.now) (pickers-bytes c.pick_of-pick.result.needs.now))

pub returns : goal.returns
returns c =
    c.in_ok-route.ensures ∙ legs-all _ _ _ c.in_ok-table.ensures
    ∙ (λ i. pick_route (c.pick_of-pick.ensures.src i) (c.pick_of-pick.ensures.needs i))

pub total_of-room-requires-clause-few : goal.total_of-room-requires-clause-few
total_of-room-requires-clause-few c = pickers-few c.pick_of-pick.result.needs.now
