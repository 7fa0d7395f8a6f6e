-- Weighted sums of source values, exact, and rounded once.
use Rattle.std.specs.Prelude.{ℕ, ℤ, pos, ◌+ℤ◌, ◌*ℤ◌, List, [], ◌∷◌}
use Rattle.cpl_base.specs.Numbers.{clip}
use Rattle.cpl_base.specs.Rounding.{near_of}
use Rattle.cpl_smm.specs.Rows.{Entry}
use Rattle.cpl_smm.specs.declared.sums.TheConstants.{BILLION}

-- a weight of one has so many billionths
abbrev pub billion : ℕ
billion = BILLION

-- the exact sum of the products of weights and values, in billionths of a millionth
abbrev pub row_sum : List Entry → List ℤ → ℤ
row_sum [] values = pos 0
row_sum (entry ∷ row) [] = pos 0
row_sum (entry ∷ row) (value ∷ values) = entry.1 *ℤ value +ℤ row_sum row values

-- what a row makes of the values of its source cells: their weighted sum, rounded once, and the nearest value to that
abbrev pub image_of : List Entry → List ℤ → ℤ
image_of row values = clip (near_of (row_sum row values) (pos billion))
