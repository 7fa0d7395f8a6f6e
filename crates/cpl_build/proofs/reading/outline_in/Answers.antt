use Rattle.std.proofs.Common.{map}
use Rattle.cpl_build.proofs.PartFacts.{pairs-listed}
use Rattle.cpl_script.specs.Matched.{cell_counts, way_of}
use Rattle.cpl_build.proofs.reading.outline_in.Goals as goal

pub order_in-requires-clause-ends : goal.order_in-requires-clause-ends
order_in-requires-clause-ends c =
    let comps = c.in_ok-components.components.comps in
    let pairs = rw c.items-3.ensures at c.in_ok-pairs.ensures.pairs in
    rw (c.items-4.ensures, c.items-5.ensures) (pairs-listed c.args.settings.dict (cell_counts comps) (map way_of c.in_ok-seq.seq.links) comps c.in_ok-pairs.pairs pairs)
