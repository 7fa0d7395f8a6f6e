-- Digits, one after another.
use Rattle.std.proofs.Common.{◌≡◌, ◌∙◌, ℕ, zero, suc, ◌+◌, ◌*◌, ◌^◌, ◌<◌, ◌≤◌, Bool, true, false, leb, List, [], ◌∷◌, length, take, get_or, Some, None, refl, ap, inl, inr, ◌-◌, arith}
use Rattle.std.proofs.Math.Nat.{pow-le-pow_right, pow-suc}
use Rattle.std.proofs.lemmas.Bool.{and_from, cases_Bool, le-leb}
use Rattle.std.proofs.lemmas.Int.Digits.{digits_value_more}
use Rattle.std.proofs.lemmas.Str.{digit_value_digit}
use Rattle.std.specs.Char.{digit_value}
use Rattle.std.specs.List.{list_all}
use Rattle.cpl_base.specs.Numerals.{is_digit, number, number_word}

-- The first digits of a word, and the number that they write.
pub record IsNumberOf (word : List ℕ) (i n : ℕ) : Type 0 where
  pub digits : list_all is_digit (take i word) ≡ true
  pub value : n ≡ number (take i word)
  pub below : n < 10 ^ i

-- one of eighteen digits more fits
pub below-next : (i n : ℕ) → n < 10 ^ i → i < 18 → n < 100000000000000000
below-next i n below few = let most : 10 ^ i ≤ 10 ^ 17 = pow-le-pow_right (omega arith) {j = 17} (omega arith) in omega (arith, most)

-- a test of all but the last, and of the last
list_all-next : (p : ℕ → Bool) (word : List ℕ) (i : ℕ) → i < length word → list_all p (take i word) ≡ true → p (get_or word i 0) ≡ true → list_all p (take (suc i) word) ≡ true
list_all-next p [] i few all here = absurd (omega arith)
list_all-next p (c ∷ cs) zero few all here = rw here refl
list_all-next p (c ∷ cs) (suc i) few all here =
    elim (cases_Bool (p c)) [
      | inl passes ↦ rw passes (list_all-next p cs i (omega arith) (rw passes at all) here)
      | inr fails ↦ let e = rw fails at all in absurd (cc)
    ]

-- a test that fails somewhere
list_all-fails : (p : ℕ → Bool) (word : List ℕ) (i : ℕ) → i < length word → p (get_or word i 0) ≡ false → list_all p word ≡ false
list_all-fails p [] i few here = absurd (omega arith)
list_all-fails p (c ∷ cs) zero few here = rw here refl
list_all-fails p (c ∷ cs) (suc i) few here =
    elim (cases_Bool (p c)) [
      | inl passes ↦ rw passes (list_all-fails p cs i (omega arith) here)
      | inr fails ↦ rw fails refl
    ]

-- one digit more
pub IsNumberOf-next : (word : List ℕ) (i n c : ℕ) → i < length word → get_or word i 0 ≡ c → 48 ≤ c → c ≤ 57 → IsNumberOf word i n → IsNumberOf word (i + 1) (n * 10 + (c - 48))
IsNumberOf-next word i n c few here low high so_far =
    let value = digit_value_digit c (low, high) in
    let more = digits_value_more 10 word i few in
    let one : 10 ^ suc i ≡ 10 ^ i * 10 = pow-suc 10 i in
    let next : i + 1 ≡ suc i = omega arith in
    let digit : is_digit (get_or word i 0) ≡ true = rw here (and_from (leb 48 c) (leb c 57) (le-leb 48 c low) (le-leb c 57 high)) in
    let this : digit_value (get_or word i 0) ≡ digit_value c = ap digit_value here in
    record {
      digits = ap (λ k. list_all is_digit (take k word)) next ∙ list_all-next is_digit word i few so_far.digits digit;
      value = omega (arith, more, value, this, so_far.value);
      below = rw (next, one) (omega (arith, so_far.below));
    }

-- no digit
pub number_word-other : (word : List ℕ) (i c : ℕ) → i < length word → get_or word i 0 ≡ c → is_digit c ≡ false → None ≡ number_word word
number_word-other [] i c few here fails = absurd (omega arith)
number_word-other (d ∷ ds) i c few here fails = rw (list_all-fails is_digit (d ∷ ds) i few (ap is_digit here ∙ fails)) refl

-- all digits
pub number_word-digits : (word : List ℕ) (n : ℕ) → 0 < length word → length word ≤ 18 → list_all is_digit word ≡ true → n ≡ number word → Some n ≡ number_word word
number_word-digits [] n some few all value = absurd (omega arith)
number_word-digits (c ∷ cs) n some few all value = rw (all, le-leb (length (c ∷ cs)) 18 few) (ap Some value)
