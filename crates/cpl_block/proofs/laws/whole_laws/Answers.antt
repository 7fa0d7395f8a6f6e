use Rattle.cpl_block.proofs.FrameFacts.{alone}
use Rattle.cpl_block.proofs.laws.whole_laws.Goals as goal

pub returns : goal.returns
returns c =
    alone c.args.frame.now c.numbering_laws.ensures c.requires.whole c.part_laws.ensures.whole
