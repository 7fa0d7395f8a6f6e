use Rattle.std.proofs.Common.{◌≡◌, ◌+◌, [], length}
use Rattle.std.specs.List.{All}
use Rattle.std.specs.Vec.Iter.{into_iter_items}
use Rattle.cpl_build.specs.Outlines.{realised_with}
use Rattle.cpl_comp.specs.Components.{IsAskedOver, IsComponent, limits_of}
use Rattle.cpl_build.proofs.realising.realised_in.Given as goal

-- realising the candidates left gives what realising all gives; one component for each candidate so far, within its limits
abbrev pub invariant-loop-candidate : goal.invariant-loop-candidate
invariant-loop-candidate l = record {
  asked : All (λ candidate. IsAskedOver candidate.advertised l.pets (length l.alarms) (length l.signs)) (into_iter_items l.candidate-iterator);
  rest : realised_with l.items l.pets l.alarms l.signs l.comps.items (into_iter_items l.candidate-iterator) ≡ realised_with l.items l.pets l.alarms l.signs [] l.fn.candidates.items;
  count : length l.comps.items + length (into_iter_items l.candidate-iterator) ≡ length l.fn.candidates.items;
  each : All (IsComponent (limits_of l.pets l.alarms l.signs)) l.comps.items;
}
