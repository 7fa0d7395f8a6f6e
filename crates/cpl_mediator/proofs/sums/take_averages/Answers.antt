use Rattle.std.proofs.Common.{length, arith}
use Rattle.cpl_mediator.proofs.AveragesFacts.{averages-all, zeros-all}
use Rattle.cpl_mediator.proofs.sums.take_averages.Goals as goal

pub returns-clause-averages : goal.returns-clause-averages
returns-clause-averages c = averages-all c.args.sums.now c.loop-cell.into c.args.count c.loop-cell.cell (omega arith) (omega arith) c.loop-cell.invariant.averages

pub returns-clause-zero : goal.returns-clause-zero
returns-clause-zero c = zeros-all c.loop-cell.sums (length c.args.sums.now) c.loop-cell.cell (omega arith) c.loop-cell.auto.sums c.loop-cell.invariant.zero
