use Rattle.std.proofs.Common.{◌≡◌, take}
use Rattle.std.specs.Prelude.{map}
use Rattle.cpl_formula.specs.declared.arguments.Argument.TheVariants.{Cell}
use Rattle.cpl_rule.specs.Inputs.{place_of}
use Rattle.cpl_rule.proofs.inputs.place_reads.Given as goal

-- the places of the reads passed
abbrev pub invariant-loop-k : goal.invariant-loop-k
invariant-loop-k l = take l.k l.places ≡ map (λ read. place_of l.frame l.fields l.moment (Cell read)) (take l.k l.reads)
