use Rattle.std.proofs.Common.{subst, sym}
use Rattle.std.specs.List.{All}
use Rattle.std.specs.Prelude.{List}
use Rattle.cpl_comp.specs.declared.component.SetRow.{SetRow}
use Rattle.cpl_rule.specs.Demands.{IsCovered}
use Rattle.cpl_rule.proofs.DemandFacts.{adds-covered, phase-covered, rule-wider, sets-covered}
use Rattle.cpl_rule.proofs.demand.Demand.with_phase.Goals as goal

pub returns-clause-covers : goal.returns-clause-covers
returns-clause-covers c =
    let demand = c.with_rows.result in
    let rows = λ (list : List SetRow). All (λ row. IsCovered demand row.rule) list in
    phase-covered demand c.args.phase.now.sets c.args.phase.now.adds
    (subst rows c.items.ensures (λ k d below. rule-wider c.with_rows-sets.result demand _ c.with_rows.ensures.wider (c.with_rows-sets.ensures.covers k d below)))
    (subst rows c.items-2.ensures c.with_rows.ensures.covers)

pub returns-clause-least : goal.returns-clause-least
returns-clause-least c = λ other wider covered.
    let rows = λ (list : List SetRow). All (λ row. IsCovered other row.rule) list in
    c.with_rows.ensures.least other
    (c.with_rows-sets.ensures.least other wider (subst rows (sym c.items.ensures) (sets-covered other c.args.phase.now covered)))
    (subst rows (sym c.items-2.ensures) (adds-covered other c.args.phase.now covered))
