use Rattle.std.proofs.Common.{◌<◌, length, arith, take_all}
use Rattle.cpl_route.proofs.TableFacts.{legs-append, legs-none, legs_from-more}
use Rattle.cpl_route.proofs.table.add_sender.Goals as goal

pub loop-place-init : goal.loop-place-init
loop-place-init g c = legs-none c.args.spans.now.items c.args.cells.now.items c.requires.table

pub loop-place-preserved : goal.loop-place-preserved
loop-place-preserved g c =
    let count = c.receiver_count-place-end.ensures in
    let inside : c.loop-place.place < length (g.S.Sharing.receivers c.args.sharing.now) = omega arith in
    rw (legs_from-more (g.S.Sharing.src c.args.sharing.now) (g.S.Sharing.is_needed c.args.sharing.now) (g.S.Sharing.receivers c.args.sharing.now) c.args.from c.loop-place.place inside)
    (legs-append c.args.spans.now.items c.args.cells.now.items _ c.loop-place.spans.items c.loop-place.cells.items _ _ _ c.loop-place.invariant c.in_ok-add_leg.ensures)

pub returns : goal.returns
returns g c =
    let count = c.receiver_count-place-end.ensures in
    let all = take_all c.loop-place.place (g.S.Sharing.receivers c.args.sharing.now) (omega arith) in
    rw all at c.loop-place.invariant
