-- What a formula is worth.
use Rattle.std.specs.Prelude.{ℕ, zero, suc, ℤ, pos, negsuc, ◌+ℤ◌, ◌-ℤ◌, Bool, ◌&&◌, nat_le, nat_lt, List, slice_index_or, unsigned_abs}
use Rattle.std.specs.Int.{int_min, int_max}
use Rattle.cpl_base.specs.Numbers.{clip, greatest}
use Rattle.cpl_base.specs.Rounding.{product_of, quotient_of}
use Rattle.cpl_formula.specs.declared.formula.Formula.{Formula}
use Rattle.cpl_formula.specs.declared.formula.Formula.TheOpen.{Formula-F, Number, Input, Minus, Abs, Plus, Less, Times, Over, Min, Max, Select}
use Rattle.cpl_formula.specs.declared.formula.Formula.TheFolds.{fold-Formula}

-- the first where a condition is above 0, else the second
abbrev pub choice_of : ℤ → ℤ → ℤ → ℤ
choice_of (pos zero) a b = b
choice_of (pos (suc n)) a b = a
choice_of (negsuc n) a b = b

-- The value of one level, at the values of its parts and of the inputs: sums and differences are clipped to
-- the values, products and quotients rounded and clipped.
abbrev pub value_step : List ℤ → Formula-F ℤ → ℤ
value_step inputs (Number z) = z
value_step inputs (Input k) = slice_index_or inputs k (pos 0)
value_step inputs (Minus a) = pos 0 -ℤ a
value_step inputs (Abs a) = pos (unsigned_abs a)
value_step inputs (Plus a b) = clip (a +ℤ b)
value_step inputs (Less a b) = clip (a -ℤ b)
value_step inputs (Times a b) = product_of a b
value_step inputs (Over a b) = quotient_of a b
value_step inputs (Min a b) = int_min a b
value_step inputs (Max a b) = int_max a b
value_step inputs (Select c a b) = choice_of c a b

-- the value of a formula, at the values of its inputs
abbrev pub value_of : List ℤ → Formula → ℤ
value_of inputs = fold-Formula ℤ (value_step inputs)

-- whether one level has its inputs among the first so many, and values as its numbers, as its parts do
abbrev pub over_step : ℕ → Formula-F Bool → Bool
over_step count (Number z) = nat_le (unsigned_abs z) greatest
over_step count (Input k) = nat_lt k count
over_step count (Minus a) = a
over_step count (Abs a) = a
over_step count (Plus a b) = a && b
over_step count (Less a b) = a && b
over_step count (Times a b) = a && b
over_step count (Over a b) = a && b
over_step count (Min a b) = a && b
over_step count (Max a b) = a && b
over_step count (Select c a b) = c && a && b

-- whether all inputs of a formula are among the first so many, and all its numbers are values
abbrev pub is_over : ℕ → Formula → Bool
is_over count = fold-Formula Bool (over_step count)
