use Rattle.cpl_grid.proofs.GridFacts.{numbering}
use Rattle.cpl_grid.proofs.grid.numbering_laws.Goals as goal

pub returns : goal.returns
returns c = numbering c.args.grid.now c.requires
