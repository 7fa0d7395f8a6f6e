use Rattle.std.proofs.Common.{ap, ◌∙◌}
use Rattle.cpl_route.specs.Routes.{pick_route}
use Rattle.cpl_route.proofs.PickFacts.{route-alike}
use Rattle.cpl_route.proofs.route.Route.pick.Goals as goal

pub returns : goal.returns
returns c =
    c.in_ok-route-2.ensures ∙ ap (pick_route c.args.src.now) c.as_slice.ensures.value
    ∙ route-alike c.args.src.now c.args.needs.now c.in_ok-copies.copies.items c.in_ok-copies.ensures.alike
