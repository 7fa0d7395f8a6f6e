use Rattle.cpl_route.specs.Tables.{HasReceivers}
use Rattle.cpl_route.proofs.table.total_from.Given as goal

abbrev pub invariant-loop-place : goal.invariant-loop-place
invariant-loop-place g l =
    HasReceivers (g.S.Sharing.src l.sharing) (g.S.Sharing.is_needed l.sharing) (g.S.Sharing.receivers l.sharing) l.from l.place l.total
