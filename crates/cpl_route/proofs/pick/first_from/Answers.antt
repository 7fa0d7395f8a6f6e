use Rattle.std.proofs.Common.{rules, of_calls, ltb}
use Rattle.std.proofs.lemmas.Fn.{always_returns_same}
use Rattle.cpl_route.proofs.PickFacts.{ascending-parted, point-before, point-behind}
use Rattle.cpl_route.proofs.pick.first_from.Goals as goal

pub returns-clause-before : goal.returns-clause-before
returns-clause-before c =
    let point = c.partition_point.ensures.partitioned (λ x. ltb x c.args.cell) (always_returns_same _ _ _ (λ a r f k. search (rules, of_calls)))
    (ascending-parted c.args.cells.now c.args.cell c.requires) in
    point-before c.args.cells.now c.args.cell c.partition_point.result point

pub returns-clause-behind : goal.returns-clause-behind
returns-clause-behind c =
    let point = c.partition_point.ensures.partitioned (λ x. ltb x c.args.cell) (always_returns_same _ _ _ (λ a r f k. search (rules, of_calls)))
    (ascending-parted c.args.cells.now c.args.cell c.requires) in
    point-behind c.args.cells.now c.args.cell c.partition_point.result point
