use Rattle.std.proofs.Common.{refl}
use Rattle.std.specs.Fmt.{digits}
use Rattle.cpl_base.specs.Numerals.{numeral_of, value_text}
use Rattle.cpl_base.proofs.examples.value_examples.Goals as goal

pub returns : goal.returns
unfolding numeral_of value_text digits
returns c = record {
  reads_greatest = refl;
  reads_least_negative = refl;
  reads_leading_zeros = refl;
  range_by_one = refl;
  range_by_far = refl;
  places_seven = refl;
  places_before_range = refl;
  digits_empty = refl;
  digits_minus_alone = refl;
  digits_point_last = refl;
  digits_point_first = refl;
  digits_plus = refl;
  digits_space = refl;
  digits_exponent = refl;
  digits_two_minuses = refl;
  writes_zero = refl;
  writes_units = refl;
  writes_least_negative = refl;
  writes_negative = refl;
  clips_above = refl;
  clips_below = refl;
  clips_not = refl;
}
