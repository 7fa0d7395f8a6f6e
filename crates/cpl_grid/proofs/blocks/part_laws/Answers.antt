use Rattle.cpl_grid.proofs.PartFacts.{cells_of_part-lists, cells_of_part-whole}
use Rattle.cpl_grid.proofs.blocks.part_laws.Goals as goal

pub returns : goal.returns
returns c = record {
  lists = cells_of_part-lists c.args.grid.now;
  whole = cells_of_part-whole c.args.grid.now;
}
