use Rattle.std.proofs.Common.{sym}
use Rattle.cpl_grid.proofs.BlockFacts.{holder-is, holds-longer, holds-others}
use Rattle.cpl_grid.proofs.blocks.holder.Goals as goal

-- the block that the division finds has the place
pub returns-then-place-in_longer : goal.returns-then-place-in_longer
returns-then-place-in_longer c =
    let found = holds-longer c.args.n c.args.m c.args.place c.requires.blocks c.if-place-in_longer.true in
    record {
      value = sym (holder-is c.args.n c.args.m _ c.args.place found);
      within = found.inside;
      holds = record { from_start = found.started; before_end = found.not_ended };
    }

pub returns-else-place-in_longer : goal.returns-else-place-in_longer
returns-else-place-in_longer c =
    let found = holds-others c.args.n c.args.m c.args.place c.requires.blocks c.requires.place c.if-place-in_longer.false in
    record {
      value = sym (holder-is c.args.n c.args.m _ c.args.place found);
      within = found.inside;
      holds = record { from_start = found.started; before_end = found.not_ended };
    }
