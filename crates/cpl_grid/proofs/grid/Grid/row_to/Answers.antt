use Rattle.std.proofs.Common.{arith, ap, ◌∙◌}
use Rattle.std.proofs.lemmas.Int.{ints}
use Rattle.cpl_grid.specs.Grid.{nearest_number, row_at}
use Rattle.cpl_grid.proofs.grid.Grid.row_to.Goals as goal

-- the sum that the code takes is the whole number
pub returns-clause-value : goal.returns-clause-value
unfolding row_at
returns-clause-value c =
    c.nearest_number.ensures.value ∙ ap (nearest_number c.args.self.now.ny) (omega (arith, ints))
