use Rattle.std.proofs.Common.{◌≡◌, take}
use Rattle.std.specs.Prelude.{sum_by}
use Rattle.cpl_script.specs.Halos.{comp_numbers}
use Rattle.cpl_script.specs.Systems.{capped}
use Rattle.cpl_script.proofs.halos.numbers_of_comps.Given as goal

-- the numbers of the components so far
abbrev pub invariant-loop-comp : goal.invariant-loop-comp
invariant-loop-comp l = l.total ≡ capped (sum_by comp_numbers (take l.comp-index l.comps))
