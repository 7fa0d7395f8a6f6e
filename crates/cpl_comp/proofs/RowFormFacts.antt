-- What holds of a row by its form alone: a range is one of values, and the words of products are two by two.
use Rattle.std.proofs.Common.{◌≡◌, ℕ, ℤ, ◌≤ℤ◌, Bool, true, false, ◌&&◌, if◌then◌else◌, int_le, List, [], ◌∷◌, codes, Result, Ok, Err, IfOk, refl, arith}
use Rattle.std.specs.Str.{bytes_eq}
use Rattle.std.proofs.lemmas.Bool.{and_parts}
use Rattle.std.proofs.lemmas.Int.{ints}
use Rattle.cpl_base.specs.Numbers.{IsValue, greatest}
use Rattle.cpl_base.specs.Numerals.{value_of}
use Rattle.cpl_base.specs.declared.value.ValFault.{ValFault}
use Rattle.cpl_base.proofs.NumeralsFacts.{numeral_of-bound}
use Rattle.cpl_comp.specs.FieldRows.{is_equals}
use Rattle.cpl_comp.specs.RowForms.{RowForm, check, add, merge, no_form, add_form, are_terms, assign_form, average_form, check_form, check_range, keyword_form, merge_form, row_form}

-- Two values in order.
pub record IsSpan (low high : ℤ) : Type 0 where
  pub least : IsValue low
  pub most : IsValue high
  pub ordered : low ≤ℤ high

-- a form whose numbers and words are as they should be
abbrev pub IsForm : RowForm → Type 0
IsForm (check field low high) = IsSpan low high
IsForm (merge field words) = are_terms words ≡ true
IsForm form = Unit {0}

-- one of two forms, by what the test says
form-if : (b : Bool) (x y : RowForm) → (b ≡ true → IsForm x) → IsForm y → IsForm (if b then x else y)
form-if true x y first second = first refl
form-if false x y first second = second

-- an integer that the test finds no greater
int_le-true : (low high : ℤ) → int_le low high ≡ true → low ≤ℤ high
int_le-true low high is = grind (arith, ints)

-- a range of two numbers that were read
check_range-form : (field : List ℕ) (low high : Result ℤ ValFault) → IfOk low IsValue → IfOk high IsValue → IsForm (check_range field low high)
check_range-form field (Ok low) (Ok high) least most =
    form-if (int_le low high) (check field low high) no_form (λ is. record { least = least; most = most; ordered = int_le-true low high is }) tt
check_range-form field (Ok low) (Err e) least most = tt
check_range-form field (Err e) high least most = tt

-- words behind `check`
check_form-form : (words : List (List ℕ)) → IsForm (check_form words)
check_form-form [] = tt
check_form-form (field ∷ []) = tt
check_form-form (field ∷ low ∷ []) = tt
check_form-form (field ∷ low ∷ high ∷ []) =
    check_range-form field (value_of low) (value_of high) (numeral_of-bound 6 greatest low) (numeral_of-bound 6 greatest high)
check_form-form (field ∷ low ∷ high ∷ word ∷ words) = tt

-- words behind `add`
add_form-form : (words : List (List ℕ)) → IsForm (add_form words)
add_form-form [] = tt
add_form-form (field ∷ []) = tt
add_form-form (field ∷ equals ∷ []) = tt
add_form-form (field ∷ equals ∷ word ∷ words) = form-if (is_equals equals) (add field (word ∷ words)) no_form (λ is. tt) tt

-- words behind `average`
average_form-form : (words : List (List ℕ)) → IsForm (average_form words)
average_form-form [] = tt
average_form-form (field ∷ []) = tt
average_form-form (field ∷ word ∷ words) = tt

-- words behind `merge`
merge_form-form : (words : List (List ℕ)) → IsForm (merge_form words)
merge_form-form [] = tt
merge_form-form (field ∷ []) = tt
merge_form-form (field ∷ equals ∷ words) =
    form-if (is_equals equals && are_terms words) (merge field words) no_form (λ is. (and_parts (is_equals equals) (are_terms words) is).1) tt

-- words in front of which a keyword stands
keyword_form-form : (word : List ℕ) (words : List (List ℕ)) → IsForm (keyword_form word words)
keyword_form-form word words =
    form-if (bytes_eq word (codes "check")) (check_form words) _ (λ is. check_form-form words)
    (form-if (bytes_eq word (codes "add")) (add_form words) _ (λ is. add_form-form words)
    (form-if (bytes_eq word (codes "average")) (average_form words) _ (λ is. average_form-form words)
    (form-if (bytes_eq word (codes "merge")) (merge_form words) no_form (λ is. merge_form-form words) tt)))

-- an assignment
assign_form-form : (field : List ℕ) (words : List (List ℕ)) → IsForm (assign_form field words)
assign_form-form field [] = tt
assign_form-form field (word ∷ words) = tt

-- the words of a row
pub row_form-form : (words : List (List ℕ)) → IsForm (row_form words)
row_form-form [] = tt
row_form-form (word ∷ []) = tt
row_form-form (word ∷ next ∷ words) =
    form-if (is_equals next) (assign_form word words) (keyword_form word (next ∷ words)) (λ is. assign_form-form word words) (keyword_form-form word (next ∷ words))
