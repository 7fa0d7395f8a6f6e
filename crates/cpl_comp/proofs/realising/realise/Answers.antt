use Rattle.std.proofs.Common.{subst}
use Rattle.cpl_comp.specs.Components.{IsAdvertised}
use Rattle.cpl_comp.proofs.RealisedFacts.{realised-is}
use Rattle.cpl_comp.proofs.realising.realise.Goals as goal

pub new-requires : goal.new-requires
new-requires c =
    let advertised : IsAdvertised c.args.advertised = subst IsAdvertised c.advertised.view_is c.advertised.invariant in
    rw c.in_ok-inputs.ensures (realised-is c.args.items.now c.args.advertised c.args.pets c.args.alarms.now c.args.signs.now c.in_ok-comp.comp advertised c.requires c.in_ok-comp.ensures.value)
