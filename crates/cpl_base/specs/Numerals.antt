-- How a text denotes a number, apart from how it is read and how it is written; then both.
use Rattle.std.specs.Prelude.{◌≡◌, ℕ, ℤ, pos, neg_ℤ, ◌+◌, ◌-◌, ◌*◌, ◌/◌, ◌%◌, ◌^◌, Bool, true, false, ◌&&◌, if◌then◌else◌, nat_le, ◌==◌, List, [], ◌∷◌, ◌++◌, length, slice_index, drop, unsigned_abs, Option, Some, None, Result, Ok, Err, decimal}
use Rattle.std.specs.Int.{is_negative}
use Rattle.std.specs.List.{list_all}
use Rattle.std.specs.Str.Parse.{digits_value}
use Rattle.cpl_base.specs.Chain.{◌>>=◌}
use Rattle.cpl_base.specs.Numbers.{million, greatest}
use Rattle.cpl_base.specs.declared.value.ValFault.{ValFault}
use Rattle.cpl_base.specs.declared.value.ValFault.TheVariants.{Digits, Places, Range}
pub use Rattle.cpl_base.specs.Words.{is_digit}

-- one digit or more, and nothing else
abbrev pub are_digits : List ℕ → Bool
are_digits [] = false
are_digits (c ∷ cs) = list_all is_digit (c ∷ cs)

-- the number that digits write, in base ten
abbrev pub number : List ℕ → ℕ
number digits = digits_value 10 digits

-- ---- number words

-- the number of one to eighteen digits
abbrev pub number_word : List ℕ → Option ℕ
number_word word = if are_digits word && nat_le (length word) 18 then Some (number word) else None

-- a number, where it is from the least to the most
abbrev pub number_in_range : ℕ → ℕ → ℕ → Option ℕ
number_in_range least most n = if nat_le least n && nat_le n most then Some n else None

-- the number of one to eighteen digits, from the least to the most
abbrev pub number_between : ℕ → ℕ → List ℕ → Option ℕ
number_between least most word = number_word word >>= number_in_range least most

-- ---- what a text denotes

-- a minus, or nothing
abbrev pub sign : Bool → List ℕ
sign true = 45 ∷ []
sign false = []

-- a point and the places behind it, or nothing
abbrev pub fraction : Option (List ℕ) → List ℕ
fraction None = []
fraction (Some places) = 46 ∷ places

-- the digits behind the point
abbrev pub place_digits : Option (List ℕ) → List ℕ
place_digits None = []
place_digits (Some places) = places

-- digits where a point stands
abbrev pub are_places : Option (List ℕ) → Bool
are_places None = true
are_places (Some places) = are_digits places

-- whole units and the digits behind the point, as a number of steps of which a unit has 10 ^ places
abbrev pub steps : ℕ → List ℕ → List ℕ → ℕ
steps places units digits = number units * 10 ^ places + number digits * 10 ^ (places - length digits)

-- a number, or that number below zero
abbrev pub signed_integer : Bool → ℕ → ℤ
signed_integer true m = neg_ℤ (pos m)
signed_integer false m = pos m

-- The text is a numeral: an optional minus, digits, and optionally a point and digits.
pub record Numeral (text : List ℕ) : Type 0 where
  pub minus : Bool
  pub units : List ℕ
  pub places : Option (List ℕ)
  pub spelled : text ≡ sign minus ++ units ++ fraction places
  pub unit_digits : are_digits units ≡ true
  pub place_digits_are : are_places places ≡ true

-- what a numeral of six places at most denotes, in millionths
abbrev pub numeral_millionths : {text : List ℕ} → Numeral text → ℤ
numeral_millionths n = signed_integer n.minus (steps 6 n.units (place_digits n.places))

-- a number with its sign, where it isn't greater than the most
abbrev pub number_within : ℕ → Bool → ℕ → Result ℤ ValFault
number_within most minus m = if nat_le m most then Ok (signed_integer minus m) else Err Range

-- What a numeral is worth, in steps of so many places, at most so great; too many places come before the range.
abbrev pub numeral_value : ℕ → ℕ → Bool → List ℕ → List ℕ → Result ℤ ValFault
numeral_value places most minus units digits =
    if nat_le (length digits) places then number_within most minus (steps places units digits) else Err Places

-- ---- reading, as a function of the text

-- one more byte in front of the first half
abbrev pub onto_front : ℕ → Option (List ℕ × List ℕ) → Option (List ℕ × List ℕ)
onto_front c None = None
onto_front c (Some h) = Some (c ∷ h.0, h.1)

-- the text before the first such byte, and the text after it
abbrev pub cut_at : ℕ → List ℕ → Option (List ℕ × List ℕ)
cut_at at [] = None
cut_at at (c ∷ cs) = if c == at then Some ([], cs) else onto_front c (cut_at at cs)

-- whether a text begins with a minus, and what stands behind it
abbrev pub signed_part : List ℕ → Bool × List ℕ
signed_part [] = (false, [])
signed_part (c ∷ cs) = if c == 45 then (true, cs) else (false, c ∷ cs)

-- the number of one to eighteen digits, behind a minus or not
abbrev pub signed_number_word : List ℕ → Option ℤ
signed_number_word word = let s = signed_part word in number_word s.1 >>= (λ n. Some (signed_integer s.0 n))

-- the digits before the point, and those behind it where there is one
abbrev pub parts_of : List ℕ → Option (List ℕ × List ℕ) → List ℕ × Option (List ℕ)
parts_of text None = (text, None)
parts_of text (Some h) = (h.0, Some h.1)

-- what a sign and the parts behind it are worth
abbrev pub parts_value : ℕ → ℕ → Bool → List ℕ × Option (List ℕ) → Result ℤ ValFault
parts_value places most minus p =
    if are_digits p.0 && are_places p.1 then numeral_value places most minus p.0 (place_digits p.1) else Err Digits

-- the number that a text denotes, in steps of so many places, at most so great; or why it denotes none
unfoldable pub numeral_of : ℕ → ℕ → List ℕ → Result ℤ ValFault
numeral_of places most text = let s = signed_part text in parts_value places most s.0 (parts_of s.1 (cut_at 46 s.1))

-- the value that a text denotes, or why it denotes none
abbrev pub value_of : List ℕ → Result ℤ ValFault
value_of text = numeral_of 6 greatest text

-- ---- writing, as a function of the number

-- six digits of a number below a million
abbrev pub six_digits : ℕ → List ℕ
six_digits n = drop 1 (decimal (million + n))

-- an optional minus, the whole units, a point and six digits
unfoldable pub value_text : ℤ → List ℕ
value_text z =
    sign (is_negative z) ++ decimal (unsigned_abs z / million) ++ (46 ∷ six_digits (unsigned_abs z % million))

-- The text writes the number: it denotes it with six places, without a needless zero in front, and
-- with a minus exactly where the number is below zero.
pub record Writes (text : List ℕ) (z : ℤ) : Type 0 where
  pub numeral : Numeral text
  pub minus : numeral.minus ≡ is_negative z
  pub lean : slice_index numeral.units 0 ≡ 48 → length numeral.units ≡ 1
  pub six : length (place_digits numeral.places) ≡ 6
  pub number_is : numeral_millionths numeral ≡ z
