use Rattle.std.proofs.Common.{◌≡◌, map}
use Rattle.std.specs.List.{range_with_len}
use Rattle.cpl_mediator.specs.Averages.{no_sums}
use Rattle.cpl_phase.specs.Opened.{sums_held}
use Rattle.cpl_phase.proofs.rooms.first_accums.Given as goal

-- the sums of the fields passed
abbrev pub invariant-loop-k : goal.invariant-loop-k
invariant-loop-k l = l.accums.items ≡ map (λ k. no_sums (sums_held l.comp l.cells k)) (range_with_len 0 l.k)
