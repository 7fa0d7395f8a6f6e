-- What numerals are read as and written as.
use Rattle.std.proofs.Common.{◌≡◌, ℕ, ◌/◌, ◌%◌, ◌^◌, ◌<◌, ◌≤◌, ◌⊎◌, inl, inr, Bool, true, false, eqb, leb, ◌&&◌, List, [], ◌∷◌, ◌++◌, length, Option, Some, None, Ok, Err, ℤ, pos, negsuc, unsigned_abs, decimal, refl, sym, ap, ◌∙◌, arith, zero, suc, append_assoc, IfSome, IfOk, FitsSigned}
use Rattle.std.proofs.lemmas.Fmt.{decimal_is_IsNumeral_wide}
use Rattle.cpl_base.proofs.DigitsFacts.{are_digits-numeral, decimal-lean, six_digits-of}
use Rattle.std.proofs.lemmas.Bool.{and_parts, cases_Bool, leb-true, le-leb, le-ltb, ne_eqb, eqb-true, false≢true}
use Rattle.std.proofs.lemmas.List.{append-nil}
use Rattle.std.specs.Int.{is_negative, w128}
use Rattle.std.specs.List.{list_all}
use Rattle.cpl_base.specs.Numbers.{IsValue, greatest, million}
use Rattle.cpl_base.specs.Numerals.{Numeral, Writes, are_digits, are_places, cut_at, fraction, is_digit, number_within, numeral_of, numeral_value, onto_front, parts_of, parts_value, place_digits, sign, signed_integer, signed_part, six_digits, steps, value_of, value_text}
use Rattle.cpl_base.specs.declared.value.ValFault.TheVariants.{Digits}

-- ---- a numeral is read as what it denotes

-- a byte that is none of the digits
is_digit-other : (c at : ℕ) → is_digit c ≡ true → is_digit at ≡ false → eqb c at ≡ false
is_digit-other c at d o = ne_eqb c at (λ e. false≢true (sym o ∙ ap is_digit (sym e) ∙ d))

-- no point stands in digits
cut_at-digits : (units : List ℕ) → list_all is_digit units ≡ true → cut_at 46 units ≡ None
cut_at-digits [] all = refl
cut_at-digits (c ∷ cs) all =
    let parts = and_parts (is_digit c) (list_all is_digit cs) all in
    let ne = is_digit-other c 46 parts.0 refl in
    let rest = cut_at-digits cs parts.1 in
    rw (ne, rest) refl

-- the first point stands behind the digits
cut_at-point : (units places : List ℕ) → list_all is_digit units ≡ true → cut_at 46 (units ++ 46 ∷ places) ≡ Some (units, places)
cut_at-point [] places all = refl
cut_at-point (c ∷ cs) places all =
    let parts = and_parts (is_digit c) (list_all is_digit cs) all in
    let ne = is_digit-other c 46 parts.0 refl in
    let rest = cut_at-point cs places parts.1 in
    rw (ne, rest) refl

-- digits and a fraction are taken apart into just these
parts_of-spelled : (units : List ℕ) (places : Option (List ℕ)) → list_all is_digit units ≡ true → parts_of (units ++ fraction places) (cut_at 46 (units ++ fraction places)) ≡ (units, places)
parts_of-spelled units None all = rw (append-nil units, cut_at-digits units all) refl
parts_of-spelled units (Some places) all = rw (cut_at-point units places all) refl

-- a numeral's parts are worth what it is
parts_value-digits : (places most : ℕ) (minus : Bool) (units : List ℕ) (digits : Option (List ℕ)) → are_digits units ≡ true → are_places digits ≡ true → parts_value places most minus (units, digits) ≡ numeral_value places most minus units (place_digits digits)
parts_value-digits places most minus units digits u p = rw (u, p) refl

-- a text that is spelled from its parts is worth what they are
numeral_of-spelled : (places most : ℕ) (minus : Bool) (units : List ℕ) (digits : Option (List ℕ)) → are_digits units ≡ true → are_places digits ≡ true → numeral_of places most (sign minus ++ units ++ fraction digits) ≡ numeral_value places most minus units (place_digits digits)
unfolding numeral_of
numeral_of-spelled places most minus [] digits u p = absurd (false≢true u)
numeral_of-spelled places most true (c ∷ cs) digits u p =
    ap (parts_value places most true) (parts_of-spelled (c ∷ cs) digits u) ∙ parts_value-digits places most true (c ∷ cs) digits u p
numeral_of-spelled places most false (c ∷ cs) digits u p =
    let ne = is_digit-other c 45 (and_parts (is_digit c) (list_all is_digit cs) u).0 refl in
    rw ne (ap (parts_value places most false) (parts_of-spelled (c ∷ cs) digits u) ∙ parts_value-digits places most false (c ∷ cs) digits u p)

-- whichever way a text is a numeral, it is worth what those parts are
pub numeral_of-numeral : (places most : ℕ) (text : List ℕ) (n : Numeral text) → numeral_of places most text ≡ numeral_value places most n.minus n.units (place_digits n.places)
numeral_of-numeral places most text n =
    ap (numeral_of places most) n.spelled ∙ numeral_of-spelled places most n.minus n.units n.places n.unit_digits n.place_digits_are

-- ---- any other text is none

-- a sign and what stands behind it are the text
signed_part-joined : (text : List ℕ) → text ≡ sign (signed_part text).0 ++ (signed_part text).1
signed_part-joined [] = refl
signed_part-joined (c ∷ cs) =
    elim (cases_Bool (eqb c 45)) [
      | inl e ↦ rw e (ap (λ (x : ℕ). x ∷ cs) (eqb-true c 45 e))
      | inr e ↦ rw e refl
    ]

-- the text, taken apart at a byte
abbrev IsCut : ℕ → List ℕ → Option (List ℕ × List ℕ) → Type 0
IsCut at text o = IfSome o (λ h. text ≡ h.0 ++ at ∷ h.1)

-- one more byte in front
onto_front-cut : (at c : ℕ) (cs : List ℕ) (o : Option (List ℕ × List ℕ)) → IsCut at cs o → IsCut at (c ∷ cs) (onto_front c o)
onto_front-cut at c cs None cut = tt
onto_front-cut at c cs (Some h) cut = ap (λ (xs : List ℕ). c ∷ xs) cut

-- the two halves of a cut, with the byte between them, are the text
cut_at-cut : (at : ℕ) (text : List ℕ) → IsCut at text (cut_at at text)
cut_at-cut at [] = tt
cut_at-cut at (c ∷ cs) =
    elim (cases_Bool (eqb c at)) [
      | inl e ↦ rw e (ap (λ (x : ℕ). x ∷ cs) (eqb-true c at e))
      | inr e ↦ rw e (onto_front-cut at c cs (cut_at at cs) (cut_at-cut at cs))
    ]

-- the digits and the fraction are the text
parts_of-joined : (text : List ℕ) (o : Option (List ℕ × List ℕ)) → IsCut 46 text o → text ≡ (parts_of text o).0 ++ fraction (parts_of text o).1
parts_of-joined text None cut = sym (append-nil text)
parts_of-joined text (Some h) cut = cut

-- a text is a numeral, or it is read as none
pub numeral_or_none : (places most : ℕ) (text : List ℕ) → Numeral text ⊎ (numeral_of places most text ≡ Err Digits)
unfolding numeral_of
numeral_or_none places most text =
    let s = signed_part text in
    let p = parts_of s.1 (cut_at 46 s.1) in
    let joined = parts_of-joined s.1 (cut_at 46 s.1) (cut_at-cut 46 s.1) in
    elim (cases_Bool (are_digits p.0 && are_places p.1)) [
      | inl e ↦ inl record {
        minus = s.0;
        units = p.0;
        places = p.1;
        spelled = signed_part-joined text ∙ ap (λ r. sign s.0 ++ r) joined ∙ sym (append_assoc (sign s.0) p.0 (fraction p.1));
        unit_digits = (and_parts (are_digits p.0) (are_places p.1) e).0;
        place_digits_are = (and_parts (are_digits p.0) (are_places p.1) e).1;
      }
      | inr e ↦ inr (rw e refl)
    ]

-- ---- what is read is in range

-- a sign leaves the size as it is
unsigned_abs-signed_integer : (minus : Bool) (m : ℕ) → unsigned_abs (signed_integer minus m) ≡ m
unsigned_abs-signed_integer true zero = refl
unsigned_abs-signed_integer true (suc m) = refl
unsigned_abs-signed_integer false m = refl

-- what isn't greater than the most stays so behind a sign
number_within-bound : (most : ℕ) (minus : Bool) (m : ℕ) → IfOk (number_within most minus m) (λ z. unsigned_abs z ≤ most)
number_within-bound most minus m =
    elim (cases_Bool (leb m most)) [
      | inl e ↦ rw (e, unsigned_abs-signed_integer minus m) (leb-true m most e)
      | inr e ↦ rw e tt
    ]

-- what a numeral is worth is in range
numeral_value-bound : (places most : ℕ) (minus : Bool) (units digits : List ℕ) → IfOk (numeral_value places most minus units digits) (λ z. unsigned_abs z ≤ most)
numeral_value-bound places most minus units digits =
    elim (cases_Bool (leb (length digits) places)) [
      | inl e ↦ rw e (number_within-bound most minus (steps places units digits))
      | inr e ↦ rw e tt
    ]

-- what a text is read as is in range
pub numeral_of-bound : (places most : ℕ) (text : List ℕ) → IfOk (numeral_of places most text) (λ z. unsigned_abs z ≤ most)
numeral_of-bound places most text =
    elim (numeral_or_none places most text) [
      | inl n ↦ rw (numeral_of-numeral places most text n) (numeral_value-bound places most n.minus n.units (place_digits n.places))
      | inr e ↦ rw e tt
    ]

-- ---- the text that is written

-- every number of 128 bits has a text of `decimal`
unsigned_abs-below : (z : ℤ) → FitsSigned w128 z → unsigned_abs z < 10 ^ 64
unsigned_abs-below (pos n) fits = omega (arith, fits.sfits)
unsigned_abs-below (negsuc n) fits = omega (arith, fits.sfits)

-- a number is its sign and its size
signed_integer-unsigned_abs : (z : ℤ) → signed_integer (is_negative z) (unsigned_abs z) ≡ z
signed_integer-unsigned_abs (pos n) = rw (le-ltb n 0 (omega arith)) refl
signed_integer-unsigned_abs (negsuc n) = refl

-- what is written of a number is a numeral that writes it
pub written_writes : (z : ℤ) → FitsSigned w128 z → Writes (value_text z) z
unfolding value_text
written_writes z fits =
    let n = unsigned_abs z in
    let units = n / million in
    let below = unsigned_abs-below z fits in
    let whole = decimal_is_IsNumeral_wide units (omega arith) in
    let six = six_digits-of (n % million) (omega arith) in
    let parts : steps 6 (decimal units) (six_digits (n % million)) ≡ n = rw (whole.1, six.number_is, six.length_is) (omega arith) in
    record {
      numeral = record {
        minus = is_negative z;
        units = decimal units;
        places = Some (six_digits (n % million));
        spelled = refl;
        unit_digits = are_digits-numeral (decimal units) whole.0;
        place_digits_are = six.digits_are;
      };
      minus = refl;
      lean = decimal-lean units (omega arith);
      six = six.length_is;
      number_is = ap (signed_integer (is_negative z)) parts ∙ signed_integer-unsigned_abs z;
    }

-- parts that denote a value are worth that value
numeral_value-value : (minus : Bool) (units digits : List ℕ) (z : ℤ) → length digits ≤ 6 → signed_integer minus (steps 6 units digits) ≡ z → IsValue z → numeral_value 6 greatest minus units digits ≡ Ok z
numeral_value-value minus units digits z short is value =
    let m = steps 6 units digits in
    let same : m ≡ unsigned_abs z = sym (unsigned_abs-signed_integer minus m) ∙ ap unsigned_abs is in
    rw (le-leb (length digits) 6 short, le-leb m greatest (rw same value)) (ap Ok is)

-- what is written of a value is read as that value
pub written_again : (z : ℤ) → FitsSigned w128 z → IsValue z → value_of (value_text z) ≡ Ok z
written_again z fits value =
    let w = written_writes z fits in
    let n = w.numeral in
    numeral_of-numeral 6 greatest (value_text z) n ∙ numeral_value-value n.minus n.units (place_digits n.places) z (omega (arith, w.six)) w.number_is value

-- what stands after a sign, the whole units, a point and six digits were appended in turn
pub value_text-bytes_after : (z : ℤ) (old signed units pointed all : List ℕ) → signed ≡ old ++ sign (is_negative z) → units ≡ signed ++ decimal (unsigned_abs z / million) → pointed ≡ units ++ 46 ∷ [] → all ≡ pointed ++ six_digits (unsigned_abs z % million) → all ≡ old ++ value_text z
unfolding value_text
value_text-bytes_after z old signed units pointed all a b c d = rw (d, c, b, a) (simp append_assoc)
