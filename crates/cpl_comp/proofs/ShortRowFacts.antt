-- Rows of phases whose words are short: so are those of their rules.
use Rattle.std.proofs.Common.{ℕ, ℤ, Bool, true, false, cond, ◌&&◌, int_le, List, [], ◌∷◌, Result, Ok, Err, codes, arith}
use Rattle.std.specs.Str.{bytes_eq}
use Rattle.cpl_base.specs.Numerals.{value_of}
use Rattle.cpl_base.specs.declared.value.ValFault.{ValFault}
use Rattle.cpl_comp.specs.FieldRows.{is_equals}
use Rattle.cpl_comp.specs.RowForms.{RowForm, add, add_form, check, merge, are_terms, assign_form, average_form, check_form, check_range, keyword_form, merge_form, no_form, row_form}
use Rattle.cpl_comp.specs.Scopes.{AreShort, HasShortWords}
use Rattle.cpl_comp.proofs.ShortFacts.{join-tail, short-below}

-- words without the first two are short where all are
short-two : (a b : List ℕ) (words : List (List ℕ)) → AreShort (a ∷ b ∷ words) → AreShort words
short-two a b words short =
    let one = join-tail b words in
    let two = join-tail a (b ∷ words) in
    omega arith

-- a form that is chosen by a test
cond-short : (b : Bool) (x y : RowForm) → HasShortWords x → HasShortWords y → HasShortWords (cond b x y)
cond-short true x y is_x is_y = is_x
cond-short false x y is_x is_y = is_y

-- an assignment
assign-short : (field : List ℕ) (words : List (List ℕ)) → AreShort words → HasShortWords (assign_form field words)
assign-short field [] short = tt
assign-short field (word ∷ words) short = short

-- a range
check-range_short : (field : List ℕ) (low high : Result ℤ ValFault) → HasShortWords (check_range field low high)
check-range_short field (Ok low) (Ok high) = cond-short (int_le low high) (check field low high) no_form tt tt
check-range_short field (Ok low) (Err e) = tt
check-range_short field (Err e) high = tt

check-short : (words : List (List ℕ)) → HasShortWords (check_form words)
check-short (field ∷ low ∷ high ∷ []) = check-range_short field (value_of low) (value_of high)
check-short words = tt

-- a kept value
add-short : (words : List (List ℕ)) → AreShort words → HasShortWords (add_form words)
add-short (field ∷ equals ∷ word ∷ words) short = cond-short (is_equals equals) (add field (word ∷ words)) no_form (short-two field equals (word ∷ words) short) tt
add-short words short = tt

-- a mean, and a sum
average-short : (words : List (List ℕ)) → HasShortWords (average_form words)
average-short (field ∷ []) = tt
average-short words = tt

merge-short : (words : List (List ℕ)) → HasShortWords (merge_form words)
merge-short (field ∷ equals ∷ words) = cond-short (is_equals equals && are_terms words) (merge field words) no_form tt tt
merge-short words = tt

-- a row by its first word
keyword-short : (word : List ℕ) (words : List (List ℕ)) → AreShort words → HasShortWords (keyword_form word words)
keyword-short word words short =
    let merges = cond-short (bytes_eq word (codes "merge")) (merge_form words) no_form (merge-short words) tt in
    let averages = cond-short (bytes_eq word (codes "average")) (average_form words) _ (average-short words) merges in
    let adds = cond-short (bytes_eq word (codes "add")) (add_form words) _ (add-short words short) averages in
    cond-short (bytes_eq word (codes "check")) (check_form words) _ (check-short words) adds

-- a row whose words are short
pub row_form-short : (words : List (List ℕ)) → AreShort words → HasShortWords (row_form words)
row_form-short [] short = tt
row_form-short (word ∷ []) short = tt
row_form-short (word ∷ next ∷ words) short =
    cond-short (is_equals next) (assign_form word words) (keyword_form word (next ∷ words)) (assign-short word words (short-two word next words short))
    (keyword-short word (next ∷ words) (short-below (next ∷ words) (word ∷ next ∷ words) (join-tail word (next ∷ words)) short))
