use Rattle.std.proofs.Common.{arith}
use Rattle.cpl_grid.proofs.decomp.Decomp.count.Goals as goal

pub returns : goal.returns
returns c = record {
  value = c.part-part.ensures.is_part.cells.count;
  within = omega (arith, c.part-part.ensures.is_part.cells.count, c.part-part.ensures.is_part.few);
}
