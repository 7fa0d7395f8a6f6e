use Rattle.std.proofs.Common.{◌≡◌, ◌+◌, [], arith}
use Rattle.cpl_grid.specs.Owners.{pets_in}
use Rattle.cpl_route.specs.Routes.{legs_from}
use Rattle.cpl_route.proofs.TableFacts.{legs-append, legs-none, route-all, route-more, route-none, table-empty}
use Rattle.cpl_route.proofs.table.table_of.Goals as goal

pub loop-from-init : goal.loop-from-init
loop-from-init g c =
    let first = c.senders-first.ensures.first in
    let legs = legs_from (g.S.Sharing.src c.args.sharing.now) (g.S.Sharing.is_needed c.args.sharing.now) (g.S.Sharing.receivers c.args.sharing.now) in
    rw (c.new-spans.ensures.items, c.in_ok-cells.ensures.items, first, route-none legs (g.S.Sharing.src c.args.sharing.now).first_pet)
    (legs-none [] [] table-empty)

pub loop-from-preserved : goal.loop-from-preserved
loop-from-preserved g c =
    let first = c.senders-first.ensures.first in
    let started = c.loop-from.auto.from in
    let legs = legs_from (g.S.Sharing.src c.args.sharing.now) (g.S.Sharing.is_needed c.args.sharing.now) (g.S.Sharing.receivers c.args.sharing.now) in
    rw (route-more legs (g.S.Sharing.src c.args.sharing.now).first_pet c.loop-from.from (omega arith))
    (legs-append [] [] _ c.loop-from.spans.items c.loop-from.cells.items _ _ _ c.loop-from.invariant c.in_ok-add_sender.ensures)

pub returns : goal.returns
returns g c =
    let first = c.senders-first.ensures.first in
    let count = c.senders-first.ensures.count in
    let end : c.loop-from.from ≡ (g.S.Sharing.src c.args.sharing.now).first_pet + pets_in (g.S.Sharing.src c.args.sharing.now) = omega arith in
    rw (← route-all (g.S.Sharing.src c.args.sharing.now) (g.S.Sharing.is_needed c.args.sharing.now) (g.S.Sharing.receivers c.args.sharing.now) c.loop-from.from end)
    c.loop-from.invariant
