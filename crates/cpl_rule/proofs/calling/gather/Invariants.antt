use Rattle.std.proofs.Common.{◌≡◌, take, map}
use Rattle.std.specs.List.{All}
use Rattle.cpl_base.specs.Numbers.{IsValue}
use Rattle.cpl_sweep.specs.Places.{input_at}
use Rattle.cpl_rule.proofs.calling.gather.Given as goal

-- the inputs passed
abbrev pub invariant-loop-k : goal.invariant-loop-k
invariant-loop-k l = record {
  values : take l.k l.inputs ≡ map (input_at l.fields l.cell) (take l.k l.places);
  within : All IsValue (take l.k l.inputs);
}
