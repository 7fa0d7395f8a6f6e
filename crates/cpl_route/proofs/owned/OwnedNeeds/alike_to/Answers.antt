use Rattle.std.proofs.Common.{◌≡◌, ◌∙◌, ap}
use Rattle.cpl_route.proofs.OwnedFacts.{owned-alike, same-height}
use Rattle.cpl_route.proofs.owned.OwnedNeeds.alike_to.Goals as goal

pub returns-then-self-grid : goal.returns-then-self-grid
returns-then-self-grid c =
    let wide : c.args.self.now.grid.nx ≡ c.args.self.now.dst.now.grid.nx = c.if-self-grid.true ∙ ap (λ g. g.nx) c.grid-2.ensures.value in
    owned-alike c.args.self.now.dst.now c.args.self.now.to c.args.self.now.part c.args.self.now.grid.nx c.args.self.now.grid.ny
    c.args.row c.args.limit c.block_stretch.result.end c.block_stretch.result.needed
    (rw c.grid.ensures.value at c.numbering_laws.ensures) c.requires.sound.is_part wide
    (same-height _ _ _ _ c.requires.sound.cells wide c.requires.sound.is_grid.columns) c.requires.limit
    c.block_stretch.ensures.some c.block_stretch.ensures.within c.block_stretch.ensures.same
