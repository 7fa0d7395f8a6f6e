use Rattle.std.proofs.Common.{arith}
use Rattle.std.proofs.lemmas.Int.{ints}
use Rattle.cpl_grid.proofs.GridFacts.{column_at-edge, column_at-ring}
use Rattle.cpl_grid.proofs.grid.Grid.column_to.Goals as goal

-- the sum that the code takes is the whole number
pub returns-then-self-clause-value : goal.returns-then-self-clause-value
returns-then-self-clause-value c =
    column_at-ring c.args.self.now _ _ _ c.if-self.true c.ring_number.ensures.value (omega (arith, ints))

pub returns-else-self-clause-value : goal.returns-else-self-clause-value
returns-else-self-clause-value c =
    column_at-edge c.args.self.now _ _ _ c.if-self.false c.nearest_number.ensures.value (omega (arith, ints))
