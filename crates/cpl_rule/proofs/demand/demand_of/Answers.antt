use Rattle.std.proofs.Common.{arith, get_or, subst, sym}
use Rattle.std.specs.List.{All}
use Rattle.std.specs.Prelude.{List}
use Rattle.cpl_comp.specs.declared.component.Field.{Field}
use Rattle.cpl_comp.specs.declared.component.Phase.{Phase}
use Rattle.cpl_rule.specs.Demands.{IsPhaseCovered, IsStartCovered}
use Rattle.cpl_rule.proofs.DemandFacts.{start-wider}
use Rattle.cpl_rule.proofs.demand.demand_of.Goals as goal

pub returns-clause-covers : goal.returns-clause-covers
returns-clause-covers c =
    let demand = c.with_phases.result in
    record {
      starts = subst (λ (list : List Field). All (IsStartCovered demand) list) c.items.ensures
          (λ k d below. start-wider c.with_starts-starts.result demand (get_or c.items.result.now k d) c.with_phases.ensures.wider (c.with_starts-starts.ensures.covers k d below));
      phases = subst (λ (list : List Phase). All (IsPhaseCovered demand) list) c.items-2.ensures c.with_phases.ensures.covers;
    }

pub returns-clause-least : goal.returns-clause-least
returns-clause-least c = λ other covered.
    let first = c.with_starts-starts.ensures.least other (record { rx = omega arith; ry = omega arith; inputs = omega arith; strips = omega arith }) (subst (λ (list : List Field). All (IsStartCovered other) list) (sym c.items.ensures) covered.starts) in
    c.with_phases.ensures.least other first (subst (λ (list : List Phase). All (IsPhaseCovered other) list) (sym c.items-2.ensures) covered.phases)
