use Rattle.std.proofs.Common.{◌≡◌, ◌+◌, ap, ◌∙◌, arith}
use Rattle.cpl_grid.specs.Owners.{pets_in}
use Rattle.cpl_route.specs.Routes.{cells_sent}
use Rattle.cpl_route.proofs.TableFacts.{route-all, senders-more}
use Rattle.cpl_route.proofs.table.total_of.Goals as goal

pub loop-from-preserved : goal.loop-from-preserved
loop-from-preserved g c =
    let first = c.senders-first.ensures.first in
    let started = c.loop-from.auto.from in
    senders-more (g.S.Sharing.src c.args.sharing.now) (g.S.Sharing.is_needed c.args.sharing.now) (g.S.Sharing.receivers c.args.sharing.now)
    c.loop-from.from c.loop-from.total c.total_from-total.result c.loop-from.invariant (omega arith)
    c.total_from-total.ensures.value c.total_from-total.ensures.few

pub returns-clause-value : goal.returns-clause-value
returns-clause-value g c =
    let first = c.senders-first.ensures.first in
    let count = c.senders-first.ensures.count in
    let end : c.loop-from.from ≡ (g.S.Sharing.src c.args.sharing.now).first_pet + pets_in (g.S.Sharing.src c.args.sharing.now) = omega arith in
    c.loop-from.invariant.value
    ∙ ap cells_sent (route-all (g.S.Sharing.src c.args.sharing.now) (g.S.Sharing.is_needed c.args.sharing.now) (g.S.Sharing.receivers c.args.sharing.now) c.loop-from.from end)
