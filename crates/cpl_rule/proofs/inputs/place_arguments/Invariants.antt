use Rattle.std.proofs.Common.{◌≡◌, take}
use Rattle.std.specs.Prelude.{map}
use Rattle.cpl_rule.specs.Inputs.{place_of}
use Rattle.cpl_rule.proofs.inputs.place_arguments.Given as goal

-- the places of the arguments passed
abbrev pub invariant-loop-k : goal.invariant-loop-k
invariant-loop-k l = take l.k l.places ≡ map (place_of l.frame l.fields l.moment) (take l.k l.arguments)
