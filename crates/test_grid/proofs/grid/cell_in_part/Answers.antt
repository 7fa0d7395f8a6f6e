use Rattle.std.proofs.Common.{arith}
use Rattle.std.proofs.lemmas.Nat.{mul-add-lt}
use Rattle.test_grid.proofs.grid.cell_in_part.Goals as goal

-- the place is one of the PET's
pub overflow_mul-j : goal.overflow_mul-j
overflow_mul-j c =
    omega (arith, mul-add-lt c.args.j _ c.args.i _ c.if-j-part.true c.if-i-part.true, c.part-part.ensures.is_part.cells.count, c.part-part.ensures.is_part.few, c.part-part.ensures.layout.grid.cells)

pub overflow_add-i : goal.overflow_add-i
overflow_add-i c =
    omega (arith, mul-add-lt c.args.j _ c.args.i _ c.if-j-part.true c.if-i-part.true, c.part-part.ensures.is_part.cells.count, c.part-part.ensures.is_part.few, c.part-part.ensures.layout.grid.cells)
