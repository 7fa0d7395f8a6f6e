use Rattle.std.proofs.Common.{◌≡◌, length, rules, sym, ap, ◌∙◌}
use Rattle.cpl_route.specs.Routes.{cells_sent}
use Rattle.cpl_route.proofs.TableFacts.{sent-table}
use Rattle.cpl_route.proofs.route.Route.total.Goals as goal

pub returns : goal.returns
returns c =
    let long : c.len.result ≡ length c.self.inside.cells.items = search rules in
    long ∙ sym (sent-table c.self.inside.spans.items c.self.inside.cells.items c.self.invariant.table) ∙ ap cells_sent c.self.view_is
