use Rattle.std.proofs.Common.{arith}
use Rattle.std.proofs.lemmas.Int.{ints}
use Rattle.cpl_grid.proofs.GridFacts.{index_of-cell, neighbour_from}
use Rattle.cpl_grid.proofs.grid.Grid.neighbour.Goals as goal

pub overflow_add-result : goal.overflow_add-result
overflow_add-result c =
    let cell = index_of-cell c.args.self.now _ _ c.column_to-column.ensures.within c.row_to-row.ensures.within in
    omega (arith, cell.within, c.requires.grid.cells)

pub returns-clause-within : goal.returns-clause-within
returns-clause-within c =
    index_of-cell c.args.self.now _ _ c.column_to-column.ensures.within c.row_to-row.ensures.within

-- the offsets that are passed on stay what they are
pub returns-clause-value : goal.returns-clause-value
returns-clause-value c =
    neighbour_from c.args.self.now c.args.s c.args.dx c.args.dy _ _ _ _ c.column_to-column.ensures.value c.row_to-row.ensures.value (omega (arith, ints)) (omega (arith, ints))
