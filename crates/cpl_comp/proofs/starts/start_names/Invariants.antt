use Rattle.std.proofs.Common.{◌≡◌, map, take}
use Rattle.cpl_comp.specs.Realised.{start_name}
use Rattle.cpl_comp.proofs.starts.start_names.Given as goal

-- the names so far
abbrev pub invariant-loop-row : goal.invariant-loop-row
invariant-loop-row l = l.names.items ≡ map (λ row. start_name row.role row.name) (take l.row-index l.rows)
