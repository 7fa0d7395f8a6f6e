-- What a row of a phase says by its form alone, names aside.
use Rattle.std.specs.Prelude.{ℕ, ℤ, Bool, ◌&&◌, ◌==◌, ◌%◌, if◌then◌else◌, int_le, nat_le, List, [], ◌∷◌, length, codes, Result, Ok, Err}
use Rattle.std.specs.Str.{bytes_eq}
use Rattle.cpl_base.specs.Numerals.{value_of}
use Rattle.cpl_base.specs.declared.value.ValFault.{ValFault}
use Rattle.cpl_comp.specs.FieldRows.{is_equals}

-- What a row says: a field takes a rule's value; its values must lie in a range; a rule's value is kept for it; it
-- takes the mean of what was kept; it takes a sum of products of two fields each; or none of these.
pub data RowForm : Type 0 where
  assign : List ℕ → List (List ℕ) → RowForm
  check : List ℕ → ℤ → ℤ → RowForm
  add : List ℕ → List (List ℕ) → RowForm
  average : List ℕ → RowForm
  merge : List ℕ → List (List ℕ) → RowForm
  no_form : RowForm

-- a rule's value for a field: there is a rule
abbrev pub assign_form : List ℕ → List (List ℕ) → RowForm
assign_form field [] = no_form
assign_form field (word ∷ words) = assign field (word ∷ words)

-- a range, where both its ends are values and in order
abbrev pub check_range : List ℕ → Result ℤ ValFault → Result ℤ ValFault → RowForm
check_range field (Ok low) (Ok high) = if int_le low high then check field low high else no_form
check_range field (Ok low) (Err e) = no_form
check_range field (Err e) high = no_form

-- a range: `F low high`
abbrev pub check_form : List (List ℕ) → RowForm
check_form (field ∷ low ∷ high ∷ []) = check_range field (value_of low) (value_of high)
check_form words = no_form

-- a kept value: `F = RULE`
abbrev pub add_form : List (List ℕ) → RowForm
add_form (field ∷ equals ∷ word ∷ words) = if is_equals equals then add field (word ∷ words) else no_form
add_form words = no_form

-- a mean: `F`
abbrev pub average_form : List (List ℕ) → RowForm
average_form (field ∷ []) = average field
average_form words = no_form

-- the words of one to 32 products of two factors
abbrev pub are_terms : List (List ℕ) → Bool
are_terms words = nat_le 2 (length words) && nat_le (length words) 64 && length words % 2 == 0

-- a sum of products: `F = a f b g ..`
abbrev pub merge_form : List (List ℕ) → RowForm
merge_form (field ∷ equals ∷ words) = if is_equals equals && are_terms words then merge field words else no_form
merge_form words = no_form

-- a row whose second word isn't `=`, by its first
abbrev pub keyword_form : List ℕ → List (List ℕ) → RowForm
keyword_form word words =
    if bytes_eq word (codes "check") then check_form words
    else if bytes_eq word (codes "add") then add_form words
    else if bytes_eq word (codes "average") then average_form words
    else if bytes_eq word (codes "merge") then merge_form words
    else no_form

-- the form of a row: with `=` as its second word it is an assignment, whatever its first is
abbrev pub row_form : List (List ℕ) → RowForm
row_form [] = no_form
row_form (word ∷ []) = no_form
row_form (word ∷ next ∷ words) = if is_equals next then assign_form word words else keyword_form word (next ∷ words)
