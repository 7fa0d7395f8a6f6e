use Rattle.std.proofs.Common.{ℕ, ap, subst, ◌∙◌, w8}
use Rattle.std.proofs.lemmas.Int.{to_z-of_z}
use Rattle.cpl_grid.specs.Grid.{column_at}
use Rattle.cpl_route.specs.Reach.{IsImage, edge_place, ring_place, steps_from_least}
use Rattle.cpl_route.proofs.ReachFacts.{column_at-edge_place, column_at-ring_place, image-reaches, used-clash, used_across-steps}
use Rattle.cpl_route.proofs.reach.columns_reached.Goals as goal

pub returns-then-not-is_used_across-clause-columns : goal.returns-then-not-is_used_across-clause-columns
returns-then-not-is_used_across-clause-columns c =
    let steps = c.steps_of-steps.ensures.value ∙ ap steps_from_least (to_z-of_z w8 c.args.dx c.ranges.dx) in
    λ used. used-clash _ _ _ c.is_used_across.ensures (used_across-steps c.args.offsets.now c.args.dx c.steps_of-steps.result steps) c.if-not-is_used_across.true used

pub returns-then-grid-clause-columns : goal.returns-then-grid-clause-columns
returns-then-grid-clause-columns c =
    let P : ℕ → Type 0 = λ steps. IsImage (ring_place c.args.grid.nx steps) c.args.block c.ring_reach.result in
    λ used. image-reaches (column_at c.args.grid) (ring_place c.args.grid.nx (steps_from_least c.args.dx)) c.args.block c.args.dx c.ring_reach.result
    (λ a. column_at-ring_place c.args.grid c.args.dx a c.if-grid.true c.requires.grid.columns c.requires.offset)
    (subst P (c.steps_of-steps.ensures.value ∙ ap steps_from_least (to_z-of_z w8 c.args.dx c.ranges.dx)) c.ring_reach.ensures.image)

pub returns-else-grid-clause-columns : goal.returns-else-grid-clause-columns
returns-else-grid-clause-columns c =
    let P : ℕ → Type 0 = λ steps. IsImage (edge_place c.args.grid.nx steps) c.args.block c.edge_reach.result in
    λ used. image-reaches (column_at c.args.grid) (edge_place c.args.grid.nx (steps_from_least c.args.dx)) c.args.block c.args.dx c.edge_reach.result
    (λ a. column_at-edge_place c.args.grid c.args.dx a c.if-grid.false c.requires.grid.columns c.requires.offset)
    (subst P (c.steps_of-steps.ensures.value ∙ ap steps_from_least (to_z-of_z w8 c.args.dx c.ranges.dx)) c.edge_reach.ensures.image)
