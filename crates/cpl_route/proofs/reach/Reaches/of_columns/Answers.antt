use Rattle.cpl_grid.specs.Grid.{column_at}
use Rattle.cpl_route.specs.Reach.{is_used_across}
use Rattle.cpl_route.proofs.ReachFacts.{reaches-each}
use Rattle.cpl_route.proofs.reach.Reaches.of_columns.Goals as goal

pub returns : goal.returns
returns c =
    reaches-each (column_at c.args.grid) (is_used_across c.args.offsets.now) c.args.block c.together.result _ _ _ _ _ c.together.ensures.each c.together.ensures.small c.together.ensures.hull_small c.together.ensures.hull
    c.columns_reached-far_back.ensures.columns c.columns_reached-back.ensures.columns c.columns_reached-here.ensures.columns c.columns_reached-ahead.ensures.columns c.columns_reached-far_ahead.ensures.columns
