use Rattle.std.proofs.Common.{arith}
use Rattle.cpl_route.proofs.PickFacts.{ascending-order}
use Rattle.cpl_route.proofs.pick.run_from.Goals as goal

pub overflow_sub-ahead : goal.overflow_sub-ahead
overflow_sub-ahead c =
    let from = c.loop-at.auto.at in
    ascending-order 0 c.args.cells.now c.args.place c.loop-at.at 0 c.requires.ascending (omega arith) c.loop-at-test.true
