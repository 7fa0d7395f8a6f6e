-- The definitions of values, of rounding and of texts, evaluated on examples.
use Rattle.std.specs.Prelude.{◌≡◌, ◌+◌, ◌^◌, pos, neg_ℤ, true, false, codes, [], ◌∷◌, Some, None, Ok, Err}
use Rattle.cpl_base.specs.Numbers.{clip}
use Rattle.cpl_base.specs.Numerals.{number_between, number_word, numeral_of, signed_number_word, value_of, value_text}
use Rattle.cpl_base.specs.Rounding.{near_of, product_of, quotient_of}
use Rattle.cpl_base.specs.Words.{are_distinct, first_repeat, is_name, place_of, rest_behind, words_of}
use Rattle.cpl_base.specs.declared.value.ValFault.TheVariants.{Digits, Places, Range}

-- texts with the values that they denote, numbers with their texts, and numbers with the nearest values
pub record ValueExamples : Type 0 where
  pub reads_greatest : value_of (codes "1000000000") ≡ Ok (pos (10 ^ 15))
  pub reads_least_negative : value_of (codes "-0.000001") ≡ Ok (neg_ℤ (pos 1))
  pub reads_leading_zeros : value_of (codes "007.50") ≡ Ok (pos 7500000)
  pub range_by_one : value_of (codes "1000000000.000001") ≡ Err Range
  pub range_by_far : value_of (codes "99999999999999999999999") ≡ Err Range
  pub places_seven : value_of (codes "1.0000001") ≡ Err Places
  pub places_before_range : value_of (codes "99999999999999999999999.1234567") ≡ Err Places
  pub digits_empty : value_of (codes "") ≡ Err Digits
  pub digits_minus_alone : value_of (codes "-") ≡ Err Digits
  pub digits_point_last : value_of (codes "1.") ≡ Err Digits
  pub digits_point_first : value_of (codes ".5") ≡ Err Digits
  pub digits_plus : value_of (codes "+1") ≡ Err Digits
  pub digits_space : value_of (codes "1 ") ≡ Err Digits
  pub digits_exponent : value_of (codes "1e3") ≡ Err Digits
  pub digits_two_minuses : value_of (codes "--1") ≡ Err Digits
  pub writes_zero : value_text (pos 0) ≡ codes "0.000000"
  pub writes_units : value_text (pos 3000000) ≡ codes "3.000000"
  pub writes_least_negative : value_text (neg_ℤ (pos 1)) ≡ codes "-0.000001"
  pub writes_negative : value_text (neg_ℤ (pos 1500000)) ≡ codes "-1.500000"
  pub clips_above : clip (pos (10 ^ 15 + 1)) ≡ pos (10 ^ 15)
  pub clips_below : clip (neg_ℤ (pos (10 ^ 15 + 1))) ≡ neg_ℤ (pos (10 ^ 15))
  pub clips_not : clip (pos 5) ≡ pos 5

-- halves above and below 0, and products and quotients of values with their signs, at the end of the range and by 0
pub record RoundingExamples : Type 0 where
  pub half : near_of (pos 1) (pos 2) ≡ pos 1
  pub half_below_zero : near_of (neg_ℤ (pos 1)) (pos 2) ≡ pos 0
  pub three_halves_below_zero : near_of (neg_ℤ (pos 3)) (pos 2) ≡ neg_ℤ (pos 1)
  pub thirds : near_of (pos 5) (pos 3) ≡ pos 2
  pub product_of_half : product_of (pos 1) (pos 500000) ≡ pos 1
  pub product_of_half_below_zero : product_of (neg_ℤ (pos 1)) (pos 500000) ≡ pos 0
  pub product_clipped : product_of (pos (10 ^ 15)) (pos (10 ^ 15)) ≡ pos (10 ^ 15)
  pub product_clipped_below : product_of (neg_ℤ (pos (10 ^ 15))) (pos (10 ^ 15)) ≡ neg_ℤ (pos (10 ^ 15))
  pub quotient_by_zero : quotient_of (pos 5) (pos 0) ≡ pos 0
  pub quotient_of_minus : quotient_of (neg_ℤ (pos 3000000)) (pos 2000000) ≡ neg_ℤ (pos 1500000)
  pub quotient_by_minus : quotient_of (pos 3000000) (neg_ℤ (pos 2000000)) ≡ neg_ℤ (pos 1500000)
  pub quotient_of_both : quotient_of (neg_ℤ (pos 3000000)) (neg_ℤ (pos 2000000)) ≡ pos 1500000
  pub quotient_half : quotient_of (pos 1) (pos 2000000) ≡ pos 1
  pub quotient_half_below_zero : quotient_of (pos 1) (neg_ℤ (pos 2000000)) ≡ pos 0
  pub quotient_clipped : quotient_of (pos (10 ^ 15)) (pos 1) ≡ pos (10 ^ 15)

-- number words with their numbers, weights, names, and texts among others
pub record TextExamples : Type 0 where
  pub number : number_word (codes "0042") ≡ Some 42
  pub eighteen_digits : number_word (codes "999999999999999999") ≡ Some 999999999999999999
  pub nineteen_digits : number_word (codes "0000000000000000001") ≡ None
  pub no_digits : number_word (codes "") ≡ None
  pub number_with_sign : number_word (codes "-1") ≡ None
  pub least : number_between 1 10 (codes "1") ≡ Some 1
  pub below_least : number_between 1 10 (codes "0") ≡ None
  pub most : number_between 1 10 (codes "10") ≡ Some 10
  pub above_most : number_between 1 10 (codes "11") ≡ None
  pub signed_number : signed_number_word (codes "-07") ≡ Some (neg_ℤ (pos 7))
  pub signed_number_without : signed_number_word (codes "7") ≡ Some (pos 7)
  pub two_signs : signed_number_word (codes "--7") ≡ None
  pub weight : numeral_of 9 1000000000000 (codes "-0.333333333") ≡ Ok (neg_ℤ (pos 333333333))
  pub greatest_weight : numeral_of 9 1000000000000 (codes "1000") ≡ Ok (pos 1000000000000)
  pub past_weights : numeral_of 9 1000000000000 (codes "1000.000000001") ≡ Err Range
  pub ten_places : numeral_of 9 1000000000000 (codes "0.0000000001") ≡ Err Places
  pub name : is_name (codes "sea_ice_2") ≡ true
  pub name_of_32 : is_name (codes "a2345678901234567890123456789012") ≡ true
  pub name_of_33 : is_name (codes "a23456789012345678901234567890123") ≡ false
  pub name_with_digit_first : is_name (codes "2m") ≡ false
  pub name_with_dash : is_name (codes "a-b") ≡ false
  pub no_name : is_name (codes "") ≡ false
  pub words : words_of (codes " a\tbc  d ") ≡ codes "a" ∷ codes "bc" ∷ codes "d" ∷ []
  pub behind_ring : rest_behind (codes "ring_") (codes "ring_noon") ≡ Some (codes "noon")
  pub not_behind : rest_behind (codes "ring_") (codes "rin") ≡ None
  pub place : place_of (codes "a" ∷ codes "b" ∷ codes "b" ∷ []) (codes "b") ≡ Some 1
  pub no_place : place_of (codes "a" ∷ codes "b" ∷ []) (codes "c") ≡ None
  pub repeats : first_repeat (codes "a" ∷ codes "b" ∷ codes "c" ∷ codes "b" ∷ codes "a" ∷ []) ≡ Some 3
  pub distinct : are_distinct (codes "a" ∷ codes "b" ∷ codes "A" ∷ []) ≡ true
