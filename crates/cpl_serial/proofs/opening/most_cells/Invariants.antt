use Rattle.std.proofs.Common.{◌≤◌, take}
use Rattle.std.specs.List.{All}
use Rattle.cpl_grid.specs.Grid.{cells_in}
use Rattle.cpl_serial.proofs.opening.most_cells.Given as goal

-- no grid passed has more
abbrev pub invariant-loop-comp : goal.invariant-loop-comp
invariant-loop-comp l = All (λ comp. cells_in comp.decomp.grid ≤ l.most) (take l.comp-index l.system.comps)
