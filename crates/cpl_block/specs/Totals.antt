-- The sum, the least and the greatest of values.
use Rattle.std.specs.Prelude.{ℤ, pos, ◌+ℤ◌, List, [], ◌∷◌, fold}
use Rattle.std.specs.Int.{int_max, int_min}

-- the sum of the values
abbrev pub total_of : List ℤ → ℤ
total_of values = fold ◌+ℤ◌ (pos 0) values

-- the least of the values
abbrev pub least_of : List ℤ → ℤ
least_of [] = pos 0
least_of (x ∷ xs) = fold int_min x xs

-- the greatest of the values
abbrev pub greatest_of : List ℤ → ℤ
greatest_of [] = pos 0
greatest_of (x ∷ xs) = fold int_max x xs
