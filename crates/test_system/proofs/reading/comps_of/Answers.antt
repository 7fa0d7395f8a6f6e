use Rattle.std.proofs.Common.{[], List, subst, sym}
use Rattle.std.specs.List.{All}
use Rattle.std.proofs.lemmas.List.Elements.{All-push}
use Rattle.cpl_comp.specs.Components.{IsComponent}
use Rattle.cpl_comp.specs.declared.component.Comp.{Comp}
use Rattle.test_system.proofs.reading.comps_of.Goals as goal

pub loop-name-preserved : goal.loop-name-preserved
loop-name-preserved c =
    let P : Comp → Type 0 = IsComponent (record { pets = c.args.pets; alarms = 0; inputs = [] }) in
    subst (λ (comps : List Comp). All P comps) (sym c.in_ok-push.ensures.items) (All-push P c.loop-name.comps.items c.in_ok-comp.comp c.loop-name.invariant c.in_ok-comp.ensures)
