-- A field that lends its values to be changed.
use Rattle.std.specs.Prelude.{List, ℤ, length, take, drop, ◌++◌}
use Rattle.std.specs.Borrow.{Lends, MutBor, Fml, Array, i64}
use Rattle.cpl_field.specs.contracts.field.Field.{the_row}

-- what is left in a slice of the values, at their number
abbrev pub values_at_length : List ℤ → List ℤ → List ℤ
values_at_length before left = take (length before) (left ++ drop (length left) before)

-- the field ends as what is left in the slice
abbrev pub LendsValues : MutBor (List ℤ) → MutBor (List ℤ) → Fml
LendsValues field slice = Lends the_row (Array i64 0) field slice (values_at_length field.now)
