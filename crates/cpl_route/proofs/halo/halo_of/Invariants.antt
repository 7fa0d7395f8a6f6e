use Rattle.cpl_route.specs.Halos.{HasPairsTo}
use Rattle.cpl_route.proofs.halo.halo_of.Given as goal

abbrev pub invariant-loop-k : goal.invariant-loop-k
invariant-loop-k l = HasPairsTo l.decomp l.offsets l.pairs l.k
