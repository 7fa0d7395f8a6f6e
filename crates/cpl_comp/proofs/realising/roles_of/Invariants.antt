use Rattle.std.proofs.Common.{◌≡◌, map, take}
use Rattle.cpl_comp.proofs.realising.roles_of.Given as goal

-- the roles so far
abbrev pub invariant-loop-row : goal.invariant-loop-row
invariant-loop-row l = l.roles.items ≡ map (λ row. row.role) (take l.row-index l.rows)
