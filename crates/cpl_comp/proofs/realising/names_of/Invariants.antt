use Rattle.std.proofs.Common.{◌≡◌, map, take}
use Rattle.cpl_comp.proofs.realising.names_of.Given as goal

-- the names so far
abbrev pub invariant-loop-row : goal.invariant-loop-row
invariant-loop-row l = l.names.items ≡ map (λ row. row.name) (take l.row-index l.rows)
