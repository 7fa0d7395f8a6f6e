use Rattle.std.proofs.Common.{◌≡◌, drop}
use Rattle.std.specs.List.{flat_map}
use Rattle.cpl_block.specs.Frames.{home_of}
use Rattle.cpl_marks.specs.Faults.{least_fault, noted_fault}
use Rattle.cpl_phase.specs.Checks.{block_faults, place_faults}
use Rattle.cpl_phase.proofs.checking.check_sites.Given as goal

-- what is left to check finds what all find
abbrev pub invariant-loop-k : goal.invariant-loop-k
invariant-loop-k l =
    least_fault (noted_fault l.found) (flat_map (λ s. place_faults l.fields l.rows (home_of l.frame s) s) (drop l.k l.sites.cells.items))
    ≡ least_fault (noted_fault l.initial.found) (block_faults l.frame l.fields l.rows)
