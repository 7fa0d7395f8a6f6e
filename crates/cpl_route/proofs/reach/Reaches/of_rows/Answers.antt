use Rattle.cpl_grid.specs.Grid.{row_at}
use Rattle.cpl_route.specs.Reach.{is_used_down}
use Rattle.cpl_route.proofs.ReachFacts.{reaches-each}
use Rattle.cpl_route.proofs.reach.Reaches.of_rows.Goals as goal

pub returns : goal.returns
returns c =
    reaches-each (row_at c.args.grid) (is_used_down c.args.offsets.now) c.args.block c.together.result _ _ _ _ _ c.together.ensures.each c.together.ensures.small c.together.ensures.hull_small c.together.ensures.hull
    c.rows_reached-far_back.ensures.rows c.rows_reached-back.ensures.rows c.rows_reached-here.ensures.rows c.rows_reached-ahead.ensures.rows c.rows_reached-far_ahead.ensures.rows
