use Rattle.std.proofs.Common.{◌≡◌, ◌++◌, ◌<◌, IfSome, drop, filter, length, option_map}
use Rattle.std.specs.Option.{option_to_list}
use Rattle.cpl_match.specs.Matching.{best_ports, is_best}
use Rattle.cpl_match.proofs.matching.pair.Given as goal

-- the port that was found and those that are left are all that fit best
abbrev pub invariant-loop-place : goal.invariant-loop-place
invariant-loop-place l = record {
  rest : option_to_list (option_map (λ port. port.now) l.found) ++ filter (is_best l.scope.dict.now l.scope.ways.now l.scope.ports.now l.import.port.now) (drop l.place l.scope.ports.now)
      ≡ best_ports l.scope.dict.now l.scope.ways.now l.scope.ports.now l.import.port.now;
  within : IfSome l.found (λ port. port.now.component < length l.scope.cells.now);
}
