use Rattle.std.proofs.Common.{◌≡◌, map, take}
use Rattle.cpl_script.specs.Kept.{halo_routes_of}
use Rattle.cpl_script.proofs.halos.halos_of.Given as goal

-- the routes of the components so far
abbrev pub invariant-loop-comp : goal.invariant-loop-comp
invariant-loop-comp l = l.halos.items ≡ map halo_routes_of (take l.comp-index l.comps)
