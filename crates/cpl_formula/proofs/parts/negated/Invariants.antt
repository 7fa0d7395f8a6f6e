-- So many minus signs as the loop has passed stand in front of the operand.
use Rattle.std.proofs.Common.{◌≡◌}
use Rattle.cpl_formula.specs.Steps.{part_with_minuses}
use Rattle.cpl_formula.proofs.parts.negated.Given as goal

abbrev pub invariant-loop : goal.invariant-loop
invariant-loop l = l.part ≡ part_with_minuses l.counter l.fn.operand
