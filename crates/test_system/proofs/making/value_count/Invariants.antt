use Rattle.std.proofs.Common.{◌≡◌, ◌*◌, ◌-◌, ◌^◌, length, min, take}
use Rattle.std.specs.Prelude.{sum_by}
use Rattle.cpl_grid.specs.Grid.{cells_in}
use Rattle.test_system.proofs.making.value_count.Given as goal

-- those of the components so far
abbrev pub invariant-loop-comp : goal.invariant-loop-comp
invariant-loop-comp l = l.total ≡ min (sum_by (λ comp. length comp.fields * cells_in comp.decomp.grid) (take l.comp-index l.comps)) (2 ^ 64 - 1)
