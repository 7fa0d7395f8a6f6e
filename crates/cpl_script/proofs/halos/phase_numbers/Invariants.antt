use Rattle.std.proofs.Common.{◌≡◌, take}
use Rattle.std.specs.Prelude.{sum_by}
use Rattle.cpl_script.specs.Halos.{halo_numbers}
use Rattle.cpl_script.specs.Systems.{capped}
use Rattle.cpl_script.proofs.halos.phase_numbers.Given as goal

-- the numbers of the phases so far
abbrev pub invariant-loop-phase : goal.invariant-loop-phase
invariant-loop-phase l = l.total ≡ capped (sum_by (λ phase. halo_numbers l.comp phase.halo) (take l.phase-index l.phases))
