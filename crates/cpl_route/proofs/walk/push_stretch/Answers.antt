use Rattle.std.proofs.Common.{◌∙◌}
use Rattle.cpl_route.proofs.WalkFacts.{stretch-more}
use Rattle.cpl_route.proofs.walk.push_stretch.Goals as goal

pub loop-cell-preserved : goal.loop-cell-preserved
loop-cell-preserved c =
    c.in_ok-push.ensures.items ∙ stretch-more c.args.first c.loop-cell.cell _ _ c.loop-cell.auto.cell c.loop-cell.invariant
