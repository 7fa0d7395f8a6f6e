use Rattle.cpl_phase.specs.Opened.{ArePlansTo}
use Rattle.cpl_phase.proofs.opening.plans_of.Given as goal

-- the plans of the phases passed
abbrev pub invariant-loop-p : goal.invariant-loop-p
invariant-loop-p l = ArePlansTo l.comp l.connected l.p l.plans.items
