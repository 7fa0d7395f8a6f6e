use Rattle.std.proofs.Common.{◌≡◌, map, take}
use Rattle.cpl_script.specs.Halos.{route_of_halo}
use Rattle.cpl_script.proofs.halos.phase_routes.Given as goal

-- the routes of the phases so far
abbrev pub invariant-loop-phase : goal.invariant-loop-phase
invariant-loop-phase l = l.routes.items ≡ map (λ phase. route_of_halo l.comp phase.halo) (take l.phase-index l.phases)
