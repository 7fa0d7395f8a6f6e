use Rattle.std.proofs.Common.{◌≡◌, drop}
use Rattle.cpl_comp.specs.PhaseRows.{after_rows, no_rows}
use Rattle.cpl_comp.specs.Views.{phase_scope_view}
use Rattle.cpl_comp.proofs.phase_rows.read_rows.Given as goal

-- reading on gives what reading all gives
abbrev pub invariant-loop-row : goal.invariant-loop-row
invariant-loop-row l = after_rows (phase_scope_view l.scope) l.table (drop l.row-index l.rows) ≡ after_rows (phase_scope_view l.scope) no_rows l.rows
