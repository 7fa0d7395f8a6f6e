use Rattle.std.proofs.Common.{arith}
use Rattle.cpl_grid.proofs.BlockFacts.{block_at-even, block_at-longer}
use Rattle.cpl_grid.proofs.blocks.block_at.Goals as goal

pub returns-then-b-longer-clause-value : goal.returns-then-b-longer-clause-value
returns-then-b-longer-clause-value c =
    block_at-longer c.args.n c.args.m c.args.b _ (omega arith) c.if-b-longer.true

pub returns-else-b-longer-clause-value : goal.returns-else-b-longer-clause-value
returns-else-b-longer-clause-value c =
    block_at-even c.args.n c.args.m c.args.b _ (omega arith) c.if-b-longer.false
