use Rattle.std.proofs.Common.{arith, refl, ap, ◌+◌}
use Rattle.cpl_route.proofs.WalkFacts.{counted-all, counted-few, counted-more, counted-none}
use Rattle.cpl_route.proofs.walk.count_row.Goals as goal

pub loop-column-init : goal.loop-column-init
loop-column-init g c = counted-none (g.N.Needs.is_needed c.args.needs.now) c.args.nx c.args.columns c.args.row

pub loop-column-preserved : goal.loop-column-preserved
loop-column-preserved g c =
    let is = rw (← c.requires.columns) at c.stretch-stretch.ensures in
    counted-more (g.N.Needs.is_needed c.args.needs.now) c.args.nx c.args.columns c.args.row c.loop-column.column _ c.stretch-stretch.result
    c.loop-column.total _ c.loop-column.invariant refl is (ap (λ n. c.loop-column.total + n) c.counted-total.ensures)

pub overflow_add-total : goal.overflow_add-total
overflow_add-total g c =
    let is = rw (← c.requires.columns) at c.stretch-stretch.ensures in
    let counted =
    counted-more (g.N.Needs.is_needed c.args.needs.now) c.args.nx c.args.columns c.args.row c.loop-column.column _ c.stretch-stretch.result
    c.loop-column.total _ c.loop-column.invariant refl is (ap (λ n. c.loop-column.total + n) c.counted-total.ensures) in
    let few = counted-few (g.N.Needs.is_needed c.args.needs.now) c.args.nx c.args.columns c.args.row _ _ counted in
    omega arith

pub returns-clause-value : goal.returns-clause-value
returns-clause-value g c =
    counted-all (g.N.Needs.is_needed c.args.needs.now) c.args.nx c.args.columns c.args.row c.loop-column.column _ c.loop-column.total
    c.loop-column.invariant refl c.loop-column-test.false

pub returns-clause-few : goal.returns-clause-few
returns-clause-few g c =
    let few = counted-few (g.N.Needs.is_needed c.args.needs.now) c.args.nx c.args.columns c.args.row _ _ c.loop-column.invariant in
    omega arith
