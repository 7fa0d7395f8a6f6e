use Rattle.std.proofs.Common.{◌≢◌, ℕ, ◌<◌, get_or}
use Rattle.cpl_route.specs.declared.need.Need.{Need}
use Rattle.cpl_route.proofs.sorted.place_of.Given as goal

abbrev pub invariant-loop-place : goal.invariant-loop-place
invariant-loop-place l = (k : ℕ) (other : Need) → k < l.place → (get_or l.needs k other).pet ≢ l.pet
