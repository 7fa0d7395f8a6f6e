use Rattle.std.proofs.Common.{List, ap, sym, ◌∙◌}
use Rattle.cpl_match.specs.Matching.{way_between}
use Rattle.cpl_match.specs.declared.port.Way.{Way}
use Rattle.cpl_match.proofs.WayFacts.{way_between-none, way_between-some}
use Rattle.cpl_match.proofs.way_table.WayTable.way.Goals as goal

pub returns-in-Some : goal.returns-in-Some
returns-in-Some c =
    let inside = c.self.inside in
    sym (way_between-some inside.ways.items inside.places.items c.args.src c.args.dst c.slot.result c.in-Some.place c.index.result.now c.index-in-Some.result.now c.self.invariant c.ranges.src.fits c.ranges.dst.fits c.slot.ensures.slot c.index.ensures c.in-Some.is c.index-in-Some.ensures)
    ∙ ap (λ (ways : List Way). way_between ways c.args.src c.args.dst) c.self.view_is

pub returns-in-None : goal.returns-in-None
returns-in-None c =
    let inside = c.self.inside in
    sym (way_between-none inside.ways.items inside.places.items c.args.src c.args.dst c.slot.result c.index.result.now c.self.invariant c.ranges.src.fits c.ranges.dst.fits c.slot.ensures.slot c.index.ensures c.in-None.is)
    ∙ ap (λ (ways : List Way). way_between ways c.args.src c.args.dst) c.self.view_is
