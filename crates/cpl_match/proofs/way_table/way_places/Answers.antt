use Rattle.std.proofs.Common.{take, sym, arith}
use Rattle.std.proofs.lemmas.List.{length-take-le}
use Rattle.cpl_match.proofs.WayFacts.{IsIndexed-next}
use Rattle.cpl_match.proofs.way_table.way_places.Goals as goal

pub loop-place-preserved : goal.loop-place-preserved
loop-place-preserved c =
    let place = c.loop-place.place in
    let ways = c.args.ways.now in
    IsIndexed-next ways c.note_way.new.places.items place _ c.loop-place-test.true
    (c.note_way.ensures (take place ways) (sym (length-take-le place ways (omega arith))) c.loop-place.invariant)
