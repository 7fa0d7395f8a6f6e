use Rattle.std.proofs.Common.{refl}
use Rattle.std.specs.Fmt.{digits}
use Rattle.cpl_base.specs.Numerals.{numeral_of}
use Rattle.cpl_base.proofs.examples.text_examples.Goals as goal

pub returns : goal.returns
unfolding numeral_of digits
returns c = record {
  number = refl;
  eighteen_digits = refl;
  nineteen_digits = refl;
  no_digits = refl;
  number_with_sign = refl;
  least = refl;
  below_least = refl;
  most = refl;
  above_most = refl;
  signed_number = refl;
  signed_number_without = refl;
  two_signs = refl;
  weight = refl;
  greatest_weight = refl;
  past_weights = refl;
  ten_places = refl;
  name = refl;
  name_of_32 = refl;
  name_of_33 = refl;
  name_with_digit_first = refl;
  name_with_dash = refl;
  no_name = refl;
  words = refl;
  behind_ring = refl;
  not_behind = refl;
  place = refl;
  no_place = refl;
  repeats = refl;
  distinct = refl;
}
