use Rattle.cpl_block.proofs.FrameFacts.{framing}
use Rattle.cpl_block.proofs.laws.frame_laws.Goals as goal

pub returns : goal.returns
returns c =
    framing c.args.frame.now c.requires c.numbering_laws.ensures (c.part_laws.ensures.lists c.args.frame.now.part)
