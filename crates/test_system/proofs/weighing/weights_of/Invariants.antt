use Rattle.std.proofs.Common.{◌≡◌, length, take}
use Rattle.std.specs.List.{All, zip}
use Rattle.test_system.specs.Weighed.{IsWeighed}
use Rattle.test_system.proofs.weighing.weights_of.Given as goal

-- the weights of the lines so far
abbrev pub invariant-loop-line : goal.invariant-loop-line
invariant-loop-line l = record {
  count : length l.weights.items ≡ l.line-index;
  each : All (IsWeighed l.comps) (zip (take l.line-index l.lines) l.weights.items);
}
