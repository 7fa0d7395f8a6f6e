use Rattle.std.proofs.Common.{ap, ◌∙◌}
use Rattle.cpl_route.specs.Routes.{is_ascending}
use Rattle.cpl_route.proofs.PickFacts.{cells-ascending}
use Rattle.cpl_route.proofs.pick.Pick.listed.Goals as goal

pub returns-clause-sound : goal.returns-clause-sound
returns-clause-sound c = record {
  is_grid = rw c.grid.ensures.value c.grid.ensures.layout.grid;
  ascending = ap (is_ascending 0) c.items.ensures ∙ cells-ascending 0 c.args.self.now.needs.now c.args.place _ c.requires.sound.ascending c.requires.place;
}
