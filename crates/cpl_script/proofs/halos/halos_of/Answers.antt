use Rattle.std.proofs.Common.{subst, sym}
use Rattle.cpl_script.specs.Kept.{HasNearHalos}
use Rattle.cpl_script.proofs.halos.halos_of.Goals as goal

pub halo_routes_of-requires : goal.halo_routes_of-requires
halo_routes_of-requires c = subst HasNearHalos (sym c.comp-item.is) (c.requires c.loop-comp.comp-index c.comp-item.result c.loop-comp-test.true)
