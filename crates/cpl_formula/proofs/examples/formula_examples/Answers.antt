-- The examples hold by computing.
use Rattle.std.proofs.Common.{refl}
use Rattle.std.specs.Fmt.{digits}
use Rattle.cpl_base.specs.Numerals.{numeral_of}
use Rattle.cpl_formula.specs.Examples.{FormulaTexts, FaultyTexts, DeepTexts, FormulaValues, DerivationExamples, ArgumentExamples}
use Rattle.cpl_formula.specs.Steps.{parsed_of}
use Rattle.cpl_formula.proofs.ValuesFacts.{values}
use Rattle.cpl_formula.proofs.examples.formula_examples.Goals as goal

texts : FormulaTexts
unfolding parsed_of numeral_of digits
texts = record {
  digit = refl;
  long_number = refl;
  field = refl;
  sum = refl;
  difference = refl;
  product = refl;
  quotient = refl;
  chain_of_sums = refl;
  chain_of_products = refl;
  product_before_sum = refl;
  brackets = refl;
  minus_number = refl;
  minus_brackets = refl;
  minus_factor = refl;
  two_minuses = refl;
  less_minus = refl;
  neighbour = refl;
  neighbour_spaced = refl;
  neighbour_here = refl;
  reads_in_order = refl;
  minimum = refl;
  maximum = refl;
  magnitude = refl;
  selection = refl;
  quantities = refl;
  alarm = refl;
}

faulty : FaultyTexts
unfolding parsed_of numeral_of digits
faulty = record {
  empty = refl;
  first = refl;
  middle = refl;
  last = refl;
  early = refl;
  left_open = refl;
  two_operands = refl;
  plus_in_front = refl;
  stray = refl;
  point_last = refl;
  argument_too_many = refl;
  argument_too_few = refl;
  function_bracket = refl;
  function_alone = refl;
  seven_places = refl;
  past_range = refl;
  bad_number_elsewhere = refl;
  unknown = refl;
  unknown_behind = refl;
  unknown_alarm = refl;
  quantity_bracket = refl;
  unknown_bracket = refl;
  unknown_elsewhere = refl;
  far = refl;
  far_behind_minus = refl;
  long_offset = refl;
  two_minuses_offset = refl;
}

deep : DeepTexts
unfolding parsed_of numeral_of digits
deep = record {
  brackets_33 = refl;
  brackets_32 = refl;
  minuses_33 = refl;
  minuses_32 = refl;
  chain_32 = refl;
  chain_33 = refl;
  minuses_31 = refl;
  brackets_31 = refl;
  deep_minuses = refl;
  deep_brackets = refl;
  fault_before_deep = refl;
}

value_examples : FormulaValues
value_examples = record {
  an_input = simp values;
  sum_clipped = simp values;
  difference_clipped = simp values;
  product_rounded = simp values;
  product_rounded_up = simp values;
  product_clipped = simp values;
  quotient_rounded = simp values;
  quotient_by_zero = simp values;
  of_minus = simp values;
  of_abs = simp values;
  of_min = simp values;
  of_max = simp values;
  selected_above = simp values;
  selected_at_zero = simp values;
  selected_below = simp values;
}

derivations : DerivationExamples
unfolding numeral_of digits
derivations = record {
  places = refl;
  longest = refl;
  chain_spelled = refl;
  chain_parsed = refl;
  chain_depth = refl;
  grouped_spelled = refl;
  grouped_parsed = refl;
  grouped_depth = refl;
  nested_spelled = refl;
  nested_depth = refl;
}

arguments : ArgumentExamples
unfolding numeral_of digits
arguments = record {
  a_number = refl;
  below_zero = refl;
  leading_zeros = refl;
  a_field = refl;
  a_quantity = refl;
  an_alarm = refl;
  a_neighbour = refl;
  at_the_cell = refl;
  seven_places = refl;
  past_range = refl;
  empty = refl;
  sum = refl;
  brackets = refl;
  minus_name = refl;
  two_minuses = refl;
  long_offset = refl;
  number_bracket = refl;
  behind_bracket = refl;
  form_before_name = refl;
  unknown = refl;
  a_function = refl;
  unknown_bracket = refl;
  name_before_far = refl;
  far = refl;
}

pub returns : goal.returns
returns c = record { texts = texts; faulty = faulty; deep = deep; values = value_examples; derivations = derivations; arguments = arguments }
