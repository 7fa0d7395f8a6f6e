use Rattle.std.proofs.Common.{ℕ, ap, subst, ◌∙◌, w8}
use Rattle.std.proofs.lemmas.Int.{to_z-of_z}
use Rattle.cpl_grid.specs.Grid.{row_at}
use Rattle.cpl_route.specs.Reach.{IsImage, edge_place, steps_from_least}
use Rattle.cpl_route.proofs.ReachFacts.{image-reaches, row_at-edge_place, used-clash, used_down-steps}
use Rattle.cpl_route.proofs.reach.rows_reached.Goals as goal

pub returns-then-is_used_down-clause-rows : goal.returns-then-is_used_down-clause-rows
returns-then-is_used_down-clause-rows c =
    let P : ℕ → Type 0 = λ steps. IsImage (edge_place c.args.grid.ny steps) c.args.block c.edge_reach.result in
    λ used. image-reaches (row_at c.args.grid) (edge_place c.args.grid.ny (steps_from_least c.args.dy)) c.args.block c.args.dy c.edge_reach.result
    (λ a. row_at-edge_place c.args.grid c.args.dy a c.requires.grid.rows c.requires.offset)
    (subst P (c.steps_of-steps.ensures.value ∙ ap steps_from_least (to_z-of_z w8 c.args.dy c.ranges.dy)) c.edge_reach.ensures.image)

pub returns-else-is_used_down-clause-rows : goal.returns-else-is_used_down-clause-rows
returns-else-is_used_down-clause-rows c =
    let steps = c.steps_of-steps.ensures.value ∙ ap steps_from_least (to_z-of_z w8 c.args.dy c.ranges.dy) in
    λ used. used-clash _ _ _ c.is_used_down.ensures (used_down-steps c.args.offsets.now c.args.dy c.steps_of-steps.result steps) c.if-is_used_down.false used
