use Rattle.std.proofs.Common.{subst, sym}
use Rattle.cpl_script.specs.Kept.{HasNearHalos}
use Rattle.cpl_script.proofs.halos.numbers_of_comps.Goals as goal

pub comp_numbers-requires : goal.comp_numbers-requires
comp_numbers-requires c = subst HasNearHalos (sym c.comp-item.is) (c.requires c.loop-comp.comp-index c.comp-item.result c.loop-comp-test.true)
