-- The examples, step by step: what a file describes, what its run leaves, and what is said of it.
use Rattle.std.proofs.Common.{◌≡◌, ℤ, pos, ◌+ℤ◌, [], ◌∷◌, length, Some, refl, ap, ◌∙◌}
use Rattle.std.specs.Fmt.{digits}
use Rattle.cpl_base.specs.Numbers.{clip}
use Rattle.cpl_base.specs.Numerals.{numeral_of, value_text}
use Rattle.cpl_formula.specs.Steps.{parsed_of}
use Rattle.cpl_formula.specs.Tree.{value_step}
use Rattle.cpl_formula.specs.declared.formula.Formula.TheFolds.{fold-roll-Formula}
use Rattle.cpl_driver.specs.Answers.{Reply, answer, reply_for, report}
use Rattle.cpl_driver.specs.Files.{line_at, lines_of, loop_in, loop_of, rule_of, sum_of, system_in, system_of, variable_of}
use Rattle.cpl_driver.specs.Examples.{RuleExamples, counting_report, counting_file, counting_end, counting_system, doubling_report, doubling_file, doubling_end, doubling_system, run_of}
use Rattle.cpl_driver.specs.Runs.{operations, rule_value, final_world}
use Rattle.cpl_driver.specs.declared.status.Status.TheVariants as status

-- what the files describe
pub counting_is : system_of counting_file ≡ Some counting_system
unfolding system_of system_in lines_of line_at variable_of rule_of loop_of loop_in sum_of parsed_of numeral_of digits
counting_is = refl

-- and the other
pub doubling_is : system_of doubling_file ≡ Some doubling_system
unfolding system_of system_in lines_of line_at variable_of rule_of loop_of loop_in sum_of parsed_of numeral_of digits
doubling_is = refl

-- which rules there are
pub rules_are : RuleExamples
unfolding system_of system_in lines_of line_at variable_of rule_of loop_of loop_in sum_of parsed_of numeral_of digits
rules_are = record {
  number_alone = refl;
  atoms_32 = refl;
  atoms_33 = refl;
  difference = refl;
  quantity = refl;
  neighbour = refl;
  brackets = refl;
  two_atoms = refl;
  unknown = refl;
  plus_last = refl;
  point_last = refl;
  seven_places = refl;
}

-- the rules, at any value
counts_on : (x : ℤ) → rule_value counting_system x ≡ clip (x +ℤ pos 1000000)
counts_on x = simp (fold-roll-Formula ℤ (value_step (x ∷ [])))

-- and the other
doubles_on : (x : ℤ) → rule_value doubling_system x ≡ clip (clip (x +ℤ x) +ℤ pos 250000)
doubles_on x = simp (fold-roll-Formula ℤ (value_step (x ∷ [])))

-- what the runs leave
pub counting_ends : final_world counting_system ≡ counting_end
unfolding final_world
counting_ends = rw (counts_on (pos 0), counts_on (pos 1000000), counts_on (pos 2000000)) refl

-- and the other
pub doubling_ends : final_world doubling_system ≡ doubling_end
unfolding final_world
doubling_ends = rw (doubles_on (pos 500000), doubles_on (pos 1250000)) refl

-- what is said of an end
pub counting_said : run_of counting_file ≡ record { status = status.Ok; text = counting_report }
unfolding answer report value_text digits
counting_said =
    ap reply_for counting_is
    ∙ ap (λ end. let said : Reply = record { status = status.Ok; text = report counting_system (length (operations counting_system)) end } in said) counting_ends

-- and the other
pub doubling_said : run_of doubling_file ≡ record { status = status.Ok; text = doubling_report }
unfolding answer report value_text digits
doubling_said =
    ap reply_for doubling_is
    ∙ ap (λ end. let said : Reply = record { status = status.Ok; text = report doubling_system (length (operations doubling_system)) end } in said) doubling_ends
