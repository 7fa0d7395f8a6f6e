use Rattle.cpl_block.proofs.AimFacts.{missed-in}
use Rattle.cpl_block.proofs.aim.place_in.Goals as goal

pub returns-in-Err-clause-none : goal.returns-in-Err-clause-none
returns-in-Err-clause-none c =
    missed-in c.args.cells.now c.args.cell _ c.binary_search.result c.binary_search.ensures.position c.requires.ascending c.in-Err.is
