use Rattle.std.proofs.Common.{◌≡◌, drop}
use Rattle.std.specs.List.{enumerate_from, flat_map}
use Rattle.cpl_block.specs.Frames.{value_at}
use Rattle.cpl_sweep.specs.Places.{field_at}
use Rattle.cpl_marks.specs.Faults.{least_fault, noted_fault}
use Rattle.cpl_phase.specs.Checks.{place_faults, value_fault}
use Rattle.cpl_phase.proofs.checking.check_place.Given as goal

-- what is left to check finds what all find
abbrev pub invariant-loop-number : goal.invariant-loop-number
invariant-loop-number l =
    least_fault (noted_fault l.found)
    (flat_map (λ numbered. value_fault l.s (value_at (field_at l.fields numbered.1.field) l.place) numbered)
    (enumerate_from l.number (drop l.number l.rows)))
    ≡ least_fault (noted_fault l.initial.found) (place_faults l.fields l.rows l.place l.s)
