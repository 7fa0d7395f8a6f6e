-- Merges: a rounded sum of products.
use Rattle.std.specs.Prelude.{ℤ, pos, ◌+ℤ◌, ◌*ℤ◌, List, [], ◌∷◌}
use Rattle.cpl_base.specs.Numbers.{IsValue, clip, million}
use Rattle.cpl_base.specs.Rounding.{near_of}

-- the exact sum of the terms' products
abbrev pub sum_of_products : List (ℤ × ℤ) → ℤ
sum_of_products [] = pos 0
sum_of_products (term ∷ terms) = (term.0 *ℤ term.1) +ℤ sum_of_products terms

-- the value of a merge: one rounding, of the exact sum
abbrev pub merge_of : List (ℤ × ℤ) → ℤ
merge_of terms = clip (near_of (sum_of_products terms) (pos million))

-- both numbers of a term are values
pub record IsTerm (term : ℤ × ℤ) : Type 0 where
  pub value : IsValue term.0
  pub factor : IsValue term.1
