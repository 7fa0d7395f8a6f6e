use Rattle.std.proofs.Common.{◌≡◌, []}
use Rattle.std.specs.Vec.Iter.{into_iter_items}
use Rattle.cpl_comp.specs.Realised.{phases_with}
use Rattle.cpl_comp.specs.Views.{phase_scope_view}
use Rattle.cpl_comp.proofs.phases.phases_of.Given as goal

-- the phases so far and those of the names left are those of all names
abbrev pub invariant-loop-label : goal.invariant-loop-label
invariant-loop-label l = phases_with (phase_scope_view l.scope) l.items l.component l.phases.items (into_iter_items l.label-iterator) ≡ phases_with (phase_scope_view l.scope) l.items l.component [] l.fn.labels
