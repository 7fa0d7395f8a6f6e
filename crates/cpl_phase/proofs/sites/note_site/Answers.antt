use Rattle.std.proofs.Common.{◌∙◌, ◌+◌, ◌++◌, [], ◌∷◌, ap, subst, ℕ}
use Rattle.cpl_block.specs.Frames.{place_at}
use Rattle.cpl_grid.specs.Grid.{IsCell}
use Rattle.cpl_phase.proofs.SitesFacts.{site-more}
use Rattle.cpl_phase.proofs.sites.note_site.Goals as goal

pub cell_at-requires-clause-cell : goal.cell_at-requires-clause-cell
cell_at-requires-clause-cell c =
    let home = c.frame_laws.ensures.here c.args.a c.args.b c.requires.spot in
    let P : ℕ → Type 0 = IsCell c.args.frame.now.grid in
    subst P home.stands (c.frame_laws.ensures.cell (place_at c.args.frame.now c.args.a c.args.b))

pub returns : goal.returns
returns c = λ cells are.
    site-more c.args.frame.now cells c.args.a c.args.b (c.first.result + c.step_to.result) c.args.sites.now
    (record { cells = c.push.new.self; homes = c.push-2.new.self }) c.frame_laws.ensures c.requires.spot
    (λ i. c.first.ensures.value i + c.step_to.ensures.value i)
    (c.in_ok-push.ensures.items ∙ ap (λ s. c.args.sites.now.cells.items ++ s ∷ []) c.cell_at.ensures)
    c.in_ok-push-2.ensures.items are
