-- What the operators of formulas make of two values.
use Rattle.std.specs.Prelude.{ℤ, ◌+ℤ◌, ◌-ℤ◌}
use Rattle.std.specs.Int.{int_max, int_min}
use Rattle.cpl_base.specs.Numbers.{clip}
use Rattle.cpl_base.specs.Rounding.{product_of, quotient_of}
use Rattle.cpl_sweep.specs.declared.operators.Operator.{Operator}
use Rattle.cpl_sweep.specs.declared.operators.Operator.TheVariants.{Plus, Less, Times, Over, Min, Max}

abbrev pub made_of : Operator → ℤ → ℤ → ℤ
made_of Plus a b = clip (a +ℤ b)
made_of Less a b = clip (a -ℤ b)
made_of Times a b = product_of a b
made_of Over a b = quotient_of a b
made_of Min a b = int_min a b
made_of Max a b = int_max a b
