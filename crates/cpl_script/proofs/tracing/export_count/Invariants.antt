use Rattle.std.proofs.Common.{◌≡◌, ◌≤◌, length}
use Rattle.std.specs.Prelude.{filter}
use Rattle.std.specs.List.{range_with_len}
use Rattle.cpl_comp.specs.Turns.{has_role}
use Rattle.cpl_comp.specs.declared.component.Role.TheVariants.{Export}
use Rattle.cpl_script.proofs.tracing.export_count.Given as goal

abbrev pub invariant-loop-place : goal.invariant-loop-place
invariant-loop-place l = record {
  counted : l.count ≡ length (filter (has_role Export l.fields) (range_with_len 0 l.place));
  few : l.count ≤ l.place;
}
