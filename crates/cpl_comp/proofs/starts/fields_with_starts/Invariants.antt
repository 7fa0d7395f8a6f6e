use Rattle.std.proofs.Common.{◌≡◌, []}
use Rattle.std.specs.Vec.Iter.{into_iter_items}
use Rattle.cpl_comp.specs.Realised.{started_with}
use Rattle.cpl_comp.specs.Views.{scope_view}
use Rattle.cpl_comp.proofs.starts.fields_with_starts.Given as goal

-- the fields so far and those of the rows left are those of all rows
abbrev pub invariant-loop-row : goal.invariant-loop-row
invariant-loop-row l = started_with (scope_view l.scope) l.fields.items (into_iter_items l.row-iterator) ≡ started_with (scope_view l.scope) [] l.fn.rows
