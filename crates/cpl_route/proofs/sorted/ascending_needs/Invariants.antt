use Rattle.cpl_route.specs.Picks.{AreCopies}
use Rattle.cpl_route.proofs.sorted.ascending_needs.Given as goal

abbrev pub invariant-loop-pet : goal.invariant-loop-pet
invariant-loop-pet l = AreCopies l.needs l.copies.items l.pet
