use Rattle.std.proofs.Common.{◌≡◌, drop}
use Rattle.std.specs.List.{enumerate_from, flat_map}
use Rattle.cpl_marks.specs.Faults.{least_fault, noted_fault}
use Rattle.cpl_phase.specs.Checks.{accum_fault, accum_faults}
use Rattle.cpl_phase.proofs.kept_checks.check_places.Given as goal

-- what is left to check finds what all find
abbrev pub invariant-loop-number : goal.invariant-loop-number
invariant-loop-number l =
    least_fault (noted_fault l.found) (flat_map (accum_fault l.accums) (enumerate_from l.number (drop l.number l.places)))
    ≡ least_fault (noted_fault l.initial.found) (accum_faults l.accums l.places)
