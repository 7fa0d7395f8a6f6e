use Rattle.std.proofs.Common.{refl}
use Rattle.cpl_route.proofs.WalkFacts.{down-all, down-more, down-none}
use Rattle.cpl_route.proofs.walk.push_cells.Goals as goal

pub loop-row-init : goal.loop-row-init
loop-row-init g c =
    down-none (g.N.Needs.is_needed c.args.needs.now) c.args.nx c.args.part.columns c.args.part.rows c.args.out.now.items

pub loop-row-preserved : goal.loop-row-preserved
loop-row-preserved g c =
    let alike = rw (← c.requires.columns) at c.alike_to-next.ensures in
    down-more (g.N.Needs.is_needed c.args.needs.now) c.args.nx c.args.part.columns c.args.part.rows c.loop-row.row _ c.alike_to-next.result
    c.args.out.now.items c.loop-row.out.items c.push_alike.new.out.items c.loop-row.invariant refl alike c.in_ok-push_alike.ensures

pub returns : goal.returns
returns g c =
    down-all (g.N.Needs.is_needed c.args.needs.now) (g.N.Needs.grid_of c.args.needs.now) c.args.nx c.args.part c.loop-row.row _
    c.args.out.now.items c.loop-row.out.items c.requires.columns c.loop-row.invariant refl c.loop-row-test.false
