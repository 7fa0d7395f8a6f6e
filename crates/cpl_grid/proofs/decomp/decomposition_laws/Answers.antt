use Rattle.cpl_grid.proofs.OwnerFacts.{division}
use Rattle.cpl_grid.proofs.decomp.decomposition_laws.Goals as goal

pub returns : goal.returns
returns c = division c.args.decomp.now c.grid.ensures.layout
