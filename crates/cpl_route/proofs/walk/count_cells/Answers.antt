use Rattle.std.proofs.Common.{arith, refl}
use Rattle.cpl_route.proofs.WalkFacts.{rows_counted-all, rows_counted-few, rows_counted-more, rows_counted-none}
use Rattle.cpl_route.proofs.walk.count_cells.Goals as goal

pub loop-row-init : goal.loop-row-init
loop-row-init g c =
    rows_counted-none (g.N.Needs.is_needed c.args.needs.now) c.args.nx c.args.part.columns c.args.part.rows

pub loop-row-preserved : goal.loop-row-preserved
loop-row-preserved g c =
    let alike = rw (← c.requires.columns) at c.alike_to-next.ensures in
    let wide = rw (← c.requires.columns) at c.requires.part.columns in
    rows_counted-more (g.N.Needs.is_needed c.args.needs.now) c.args.nx c.args.part.columns c.args.part.rows c.loop-row.row _ c.alike_to-next.result
    c.loop-row.total c.count_row.result _ c.loop-row.invariant wide refl alike c.count_row.ensures.value refl

pub overflow_add-total : goal.overflow_add-total
overflow_add-total g c =
    let alike = rw (← c.requires.columns) at c.alike_to-next.ensures in
    let wide = rw (← c.requires.columns) at c.requires.part.columns in
    let counted =
    rows_counted-more (g.N.Needs.is_needed c.args.needs.now) c.args.nx c.args.part.columns c.args.part.rows c.loop-row.row _ c.alike_to-next.result
    c.loop-row.total c.count_row.result _ c.loop-row.invariant wide refl alike c.count_row.ensures.value refl in
    let few = rows_counted-few (g.N.Needs.is_needed c.args.needs.now) (g.N.Needs.grid_of c.args.needs.now) c.args.nx c.args.part _ _ c.requires.columns c.requires.grid c.requires.part counted in
    omega arith

pub returns-clause-value : goal.returns-clause-value
returns-clause-value g c =
    rows_counted-all (g.N.Needs.is_needed c.args.needs.now) (g.N.Needs.grid_of c.args.needs.now) c.args.nx c.args.part c.loop-row.row _ c.loop-row.total
    c.requires.columns c.loop-row.invariant refl c.loop-row-test.false

pub returns-clause-few : goal.returns-clause-few
returns-clause-few g c =
    rows_counted-few (g.N.Needs.is_needed c.args.needs.now) (g.N.Needs.grid_of c.args.needs.now) c.args.nx c.args.part _ _ c.requires.columns c.requires.grid c.requires.part c.loop-row.invariant
