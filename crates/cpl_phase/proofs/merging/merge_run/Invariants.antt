use Rattle.std.proofs.Common.{◌≡◌, ◌+◌, map, take}
use Rattle.std.specs.List.{All, range_with_len}
use Rattle.cpl_base.specs.Numbers.{IsValue}
use Rattle.cpl_phase.specs.Merging.{merge_at}
use Rattle.cpl_phase.proofs.merging.merge_run.Given as goal

-- the values at the places passed
abbrev pub invariant-loop-step : goal.invariant-loop-step
invariant-loop-step l = record {
  values : take l.step l.these ≡ map (λ step. merge_at l.terms l.fields (l.first + step)) (range_with_len 0 l.step);
  within : All IsValue (take l.step l.these);
}
