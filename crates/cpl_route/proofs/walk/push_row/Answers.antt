use Rattle.std.proofs.Common.{refl}
use Rattle.cpl_route.proofs.WalkFacts.{along-all, along-more, along-none}
use Rattle.cpl_route.proofs.walk.push_row.Goals as goal

pub loop-column-init : goal.loop-column-init
loop-column-init g c =
    along-none (g.N.Needs.is_needed c.args.needs.now) c.args.nx c.args.columns c.args.row c.args.out.now.items

pub loop-column-preserved : goal.loop-column-preserved
loop-column-preserved g c =
    let is = rw (← c.requires.columns) at c.stretch-stretch.ensures in
    along-more (g.N.Needs.is_needed c.args.needs.now) c.args.nx c.args.columns c.args.row c.loop-column.column _ c.stretch-stretch.result
    c.args.out.now.items c.loop-column.out.items c.push_stretch.new.out.items c.loop-column.invariant refl is c.in_ok-push_stretch.ensures

pub returns : goal.returns
returns g c =
    along-all (g.N.Needs.is_needed c.args.needs.now) c.args.nx c.args.columns c.args.row c.loop-column.column _ c.args.out.now.items
    c.loop-column.out.items c.loop-column.invariant refl c.loop-column-test.false
