use Rattle.cpl_route.specs.Tables.{HasSenders}
use Rattle.cpl_route.proofs.table.total_of.Given as goal

abbrev pub invariant-loop-from : goal.invariant-loop-from
invariant-loop-from g l =
    HasSenders (g.S.Sharing.src l.sharing) (g.S.Sharing.is_needed l.sharing) (g.S.Sharing.receivers l.sharing) l.from l.total
