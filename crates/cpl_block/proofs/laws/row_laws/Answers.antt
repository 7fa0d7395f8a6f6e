use Rattle.cpl_block.proofs.RowFacts.{in-rows}
use Rattle.cpl_block.proofs.laws.row_laws.Goals as goal

pub returns : goal.returns
returns c = in-rows c.args.frame.now c.requires c.numbering_laws.ensures
