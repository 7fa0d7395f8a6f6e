-- A list that lends its items to be changed.
use Rattle.std.specs.Prelude.{List, length, take, drop, ◌++◌}
use Rattle.std.specs.Borrow.{Lends, MutBor, Fml, Array, RattleType}
use Rattle.cpl_base.specs.contracts.many.Many.{the_row}

-- what is left in a slice of the items, at their length
abbrev pub items_at_length : {A : Type 0} → List A → List A → List A
items_at_length before left = take (length before) (left ++ drop (length left) before)

-- the list ends as what is left in the slice
abbrev pub LendsItems : (R : RattleType) → MutBor (List R.Denot) → MutBor (List R.Denot) → Fml
LendsItems R many slice = Lends (the_row R) (Array R 0) many slice (items_at_length many.now)
