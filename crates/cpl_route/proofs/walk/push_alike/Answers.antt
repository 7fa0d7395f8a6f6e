use Rattle.std.proofs.Common.{◌≡◌, length, arith, rules, ap, length-append}
use Rattle.std.proofs.Math.Nat.{le-mul_of_pos_right}
use Rattle.cpl_route.specs.Places.{needed_in_row}
use Rattle.cpl_route.proofs.WalkFacts.{alike-copied, appended, needed_in_row-few, row-fits}
use Rattle.cpl_route.proofs.walk.push_alike.Goals as goal

pub copy_down-requires-clause-few : goal.copy_down-requires-clause-few
copy_down-requires-clause-few g c =
    let before : c.len-before.result ≡ length c.args.out.now.items = search rules in
    let few = needed_in_row-few (g.N.Needs.is_needed c.args.needs.now) c.args.nx c.args.columns c.args.row in
    let joined = ap length c.in_ok-push_row.ensures in
    let all = length-append c.args.out.now.items (needed_in_row (g.N.Needs.is_needed c.args.needs.now) c.args.nx c.args.columns c.args.row) in
    let rows = c.requires.grid.rows in
    let cells = c.requires.grid.cells in
    let wide = le-mul_of_pos_right {m = (g.N.Needs.grid_of c.args.needs.now).ny} (g.N.Needs.grid_of c.args.needs.now).nx (omega arith) in
    omega arith

pub copy_down-requires-clause-fits : goal.copy_down-requires-clause-fits
copy_down-requires-clause-fits g c =
    let before : c.len-before.result ≡ length c.args.out.now.items = search rules in
    let parts = appended c.len-before.result c.args.out.now.items c.push_row.new.out.items _ before c.in_ok-push_row.ensures in
    rw (parts.1, c.requires.columns) (row-fits (g.N.Needs.is_needed c.args.needs.now) (g.N.Needs.grid_of c.args.needs.now) c.args.columns c.args.row c.args.rows c.requires.grid (rw (← c.requires.columns) c.requires.within) c.requires.some c.requires.rows)

pub returns : goal.returns
returns g c =
    let before : c.len-before.result ≡ length c.args.out.now.items = search rules in
    alike-copied (g.N.Needs.is_needed c.args.needs.now) c.args.nx c.args.columns c.args.row c.args.rows c.len-before.result
    c.args.out.now.items c.push_row.new.out.items c.copy_down.new.out.items before c.requires.within c.requires.some c.requires.alike
    c.in_ok-push_row.ensures c.in_ok-copy_down.ensures
