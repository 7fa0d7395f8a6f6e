use Rattle.cpl_route.specs.Kept.{HasPartsTo}
use Rattle.cpl_route.proofs.parts.parts_of.Given as goal

abbrev pub invariant-loop-k : goal.invariant-loop-k
invariant-loop-k l = HasPartsTo l.decomp l.list l.k
