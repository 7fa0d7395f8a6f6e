-- Digits and the numbers that they write.
use Rattle.std.proofs.Common.{◌≡◌, ℕ, ◌+◌, ◌-◌, ◌*◌, ◌^◌, ◌<◌, ◌≤◌, true, leb, if◌then◌else◌, Some, None, List, [], ◌∷◌, length, get_or, refl, arith, zero, suc, sym, ap, ◌∙◌, ◌++◌, ◌/◌, ◌%◌, drop, decimal, inl, inr, min}
use Rattle.std.proofs.lemmas.Fmt.{decimal_by_steps_wide, decimal_digit, decimal_is_IsNumeral_wide, length-decimal-le_wide}
use Rattle.std.proofs.lemmas.Str.Parse.{digit_from_value}
use Rattle.std.proofs.Math.Nat.{mul-le-mul_right, pow-le-pow_right, pow-suc}
use Rattle.std.proofs.lemmas.Bool.{and_from, and_parts, cases_lt, le-leb, leb-true, lt-leb}
use Rattle.std.proofs.lemmas.Int.Digits.{digits_value-lt}
use Rattle.std.proofs.lemmas.Str.{digit_value_digit}
use Rattle.std.specs.Char.{digit_value}
use Rattle.std.specs.List.{list_all}
use Rattle.std.specs.Str.Parse.{AllDigits, IsNumeral, digits_value_after}
use Rattle.cpl_base.specs.Numerals.{are_digits, is_digit, number, six_digits}

-- what has a byte is digits where each byte is one
pub are_digits-nonempty : (text : List ℕ) → 0 < length text → list_all is_digit text ≡ are_digits text
are_digits-nonempty [] some = absurd (omega arith)
are_digits-nonempty (c ∷ cs) some = refl

-- a digit's value is what it is above `0`
digit_value-digit : (c : ℕ) → is_digit c ≡ true → digit_value c + 48 ≡ c
digit_value-digit c d =
    let parts = and_parts (leb 48 c) (leb c 57) d in
    digit_value_digit c (leb-true 48 c parts.0, leb-true c 57 parts.1)

-- the same, of a digit of a list
pub digit_value_at : (digits : List ℕ) (i : ℕ) → list_all is_digit digits ≡ true → i < length digits → digit_value (get_or digits i 0) + 48 ≡ get_or digits i 0
digit_value_at [] i all inside = absurd (omega arith)
digit_value_at (c ∷ cs) zero all inside = digit_value-digit c (and_parts (is_digit c) (list_all is_digit cs) all).0
digit_value_at (c ∷ cs) (suc i) all inside =
    digit_value_at cs i (and_parts (is_digit c) (list_all is_digit cs) all).1 (omega arith)

-- digits in the words of `parse`
AllDigits-from_list_all : (digits : List ℕ) → list_all is_digit digits ≡ true → AllDigits 10 digits
AllDigits-from_list_all [] all = tt
AllDigits-from_list_all (c ∷ cs) all =
    let parts = and_parts (is_digit c) (list_all is_digit cs) all in
    let bounds = and_parts (leb 48 c) (leb c 57) parts.0 in
    let value = digit_value-digit c parts.0 in
    let top = leb-true c 57 bounds.1 in
    (omega arith, AllDigits-from_list_all cs parts.1)

-- eighteen digits at most write a number below 10^18
pub eighteen_below : (digits : List ℕ) → list_all is_digit digits ≡ true → length digits ≤ 18 → number digits < 10 ^ 18
eighteen_below digits all few =
    let below = digits_value-lt 10 digits (AllDigits-from_list_all digits all) in
    let most : 10 ^ length digits ≤ 10 ^ 18 = pow-le-pow_right (omega arith) {j = 18} few in
    omega (arith, below, most)

-- what is counted up to an end is as good as what isn't, where it is multiplied and held against a smaller number
pub capped-times : (n scale rest most : ℕ) → 1 ≤ scale → most < 2 ^ 63 → (if leb (min n (2 ^ 64 - 1) * scale + rest) most then Some (min n (2 ^ 64 - 1) * scale + rest) else None) ≡ (if leb (n * scale + rest) most then Some (n * scale + rest) else None)
capped-times n scale rest most some small = elim (cases_lt n (2 ^ 64)) [
  | inl fits ↦ let same : min n (2 ^ 64 - 1) ≡ n = omega arith in rw same refl
  | inr wide ↦
      let whole : min n (2 ^ 64 - 1) ≡ 2 ^ 64 - 1 = omega arith in
      let above : 2 ^ 64 - 1 ≤ (2 ^ 64 - 1) * scale = omega arith in
      let more : (2 ^ 64 - 1) * scale ≤ n * scale = mul-le-mul_right scale (omega arith) in
      rw (whole, lt-leb ((2 ^ 64 - 1) * scale + rest) most (omega arith), lt-leb (n * scale + rest) most (omega arith)) refl
]

-- ---- what `decimal` writes

-- digits in the words of `parse` are digits
list_all-from_AllDigits : (digits : List ℕ) → AllDigits 10 digits → list_all is_digit digits ≡ true
list_all-from_AllDigits [] all = refl
list_all-from_AllDigits (c ∷ cs) all =
    let range = digit_from_value c all.0 in
    let digit : is_digit c ≡ true = and_from (leb 48 c) (leb c 57) (le-leb 48 c range.0) (le-leb c 57 range.1) in
    and_from (is_digit c) (list_all is_digit cs) digit (list_all-from_AllDigits cs all.1)

-- the same, of one digit or more
pub are_digits-numeral : (digits : List ℕ) → IsNumeral 10 digits → are_digits digits ≡ true
are_digits-numeral digits n =
    sym (are_digits-nonempty digits n.0) ∙ list_all-from_AllDigits digits n.1

-- a text begins with `0` only where it writes zero
abbrev BeginsLean : ℕ → List ℕ → Type 0
BeginsLean n ds = (0 < length ds) × (get_or ds 0 0 ≡ 48 → n ≡ 0)

-- one more digit at the end of such a text
begins_lean-more : (n : ℕ) (ds : List ℕ) → 10 ≤ n → BeginsLean (n / 10) ds → BeginsLean n (ds ++ ((48 + n % 10) ∷ []))
begins_lean-more n [] ten lean = absurd (omega arith)
begins_lean-more n (d ∷ ds) ten lean = (omega arith, λ e. absurd (omega (arith, lean.1 e)))

-- no needless zero stands in front
pub decimal-lean : (n : ℕ) → n < 10 ^ 64 → get_or (decimal n) 0 0 ≡ 48 → length (decimal n) ≡ 1
decimal-lean n small zero_first =
    let begins = decimal_by_steps_wide BeginsLean (λ m l. (omega arith, λ e. omega arith)) begins_lean-more n small in
    let none = begins.1 zero_first in
    rw (none, decimal_digit 0 (omega arith)) refl

-- the weight of digits that come first
digits_value_after-is : (n : ℕ) (ds : List ℕ) → digits_value_after 10 n ds ≡ n * 10 ^ length ds + number ds
digits_value_after-is n [] = omega arith
digits_value_after-is n (c ∷ cs) =
    let a = digits_value_after-is (n * 10 + digit_value c) cs in
    let b = digits_value_after-is (0 * 10 + digit_value c) cs in
    omega (arith, ap (λ x. n * x) (pow-suc 10 (length cs)))

-- What the six digits of a number below a million are.
pub record IsSixDigits (n : ℕ) (digits : List ℕ) : Type 0 where
  pub length_is : length digits ≡ 6
  pub digits_are : are_digits digits ≡ true
  pub number_is : number digits ≡ n

-- the digits behind the first of a million more
behind_first : (n : ℕ) (ds : List ℕ) → n < 1000000 → AllDigits 10 ds → length ds ≡ 7 → number ds ≡ 1000000 + n → IsSixDigits n (drop 1 ds)
behind_first n [] small all seven value = absurd (omega arith)
behind_first n (c ∷ cs) small all seven value =
    let six : length cs ≡ 6 = omega arith in
    let weight : number (c ∷ cs) ≡ (0 * 10 + digit_value c) * 1000000 + number cs = digits_value_after-is (0 * 10 + digit_value c) cs ∙ ap (λ k. (0 * 10 + digit_value c) * 10 ^ k + number cs) six in
    let below : number cs < 1000000 = omega (arith, digits_value-lt 10 cs all.1, ap (λ k. 10 ^ k) six) in
    record {
      length_is = six;
      digits_are = are_digits-numeral cs (omega arith, all.1);
      number_is = omega arith;
    }

-- a million and less than a million more has seven digits
pub length_of_million : (n : ℕ) → n < 1000000 → length (decimal (1000000 + n)) ≡ 7
length_of_million n small =
    let m = 1000000 + n in
    let most = length-decimal-le_wide 7 m (omega arith) (omega arith) (omega arith) in
    let numeral = decimal_is_IsNumeral_wide m (omega arith) in
    let below = digits_value-lt 10 (decimal m) numeral.0.1 in
    elim (cases_lt (length (decimal m)) 7) [
      | inl few ↦ let short : 10 ^ length (decimal m) ≤ 10 ^ 6 = pow-le-pow_right (omega arith) {j = 6} (omega arith) in absurd (omega (arith, numeral.1))
      | inr seven ↦ omega arith
    ]

-- `six_digits` gives six digits of the number
pub six_digits-of : (n : ℕ) → n < 1000000 → IsSixDigits n (six_digits n)
six_digits-of n small =
    let numeral = decimal_is_IsNumeral_wide (1000000 + n) (omega arith) in
    behind_first n (decimal (1000000 + n)) small numeral.0.1 (length_of_million n small) numeral.1
