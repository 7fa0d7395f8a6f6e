use Rattle.std.proofs.Common.{take}
use Rattle.cpl_route.specs.Routes.{legs_from}
use Rattle.cpl_route.specs.Tables.{HasLegs}
use Rattle.cpl_route.proofs.table.add_sender.Given as goal

abbrev pub invariant-loop-place : goal.invariant-loop-place
invariant-loop-place g l =
    HasLegs l.initial.spans.items l.initial.cells.items
    (legs_from (g.S.Sharing.src l.sharing) (g.S.Sharing.is_needed l.sharing) (take l.place (g.S.Sharing.receivers l.sharing)) l.from)
    l.spans.items l.cells.items
