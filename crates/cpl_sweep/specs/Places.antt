-- What a formula is worth at the cells of a run.
use Rattle.std.specs.Prelude.{ℕ, ℤ, pos, ◌+◌, ◌<◌, ◌≤◌, List, [], length, map, slice_index_or}
use Rattle.std.specs.List.{range_with_len}
use Rattle.cpl_base.specs.Numbers.{IsValue}
use Rattle.cpl_formula.specs.Tree.{value_of}
use Rattle.cpl_formula.specs.declared.formula.Formula.{Formula}
use Rattle.cpl_sweep.specs.declared.place.Place.{Place}
use Rattle.cpl_sweep.specs.declared.place.Place.TheVariants.{Same, From}

-- the values of a field, by its place among the fields
abbrev pub field_at : List (List ℤ) → ℕ → List ℤ
field_at fields field = slice_index_or fields field []

-- an input at a cell of the run, counted from 0
abbrev pub input_at : List (List ℤ) → ℕ → Place → ℤ
input_at fields cell (Same value) = value
input_at fields cell (From field first) = slice_index_or (field_at fields field) (first + cell) (pos 0)

-- all inputs at a cell
abbrev pub inputs_at : List Place → List (List ℤ) → ℕ → List ℤ
inputs_at places fields cell = map (input_at fields cell) places

-- the value of a formula at a cell
abbrev pub value_at : List Place → List (List ℤ) → Formula → ℕ → ℤ
value_at places fields tree cell = value_of (inputs_at places fields cell) tree

-- the values of a formula at the first so many cells
abbrev pub values_over : List Place → List (List ℤ) → Formula → ℕ → List ℤ
values_over places fields tree cells = map (value_at places fields tree) (range_with_len 0 cells)

-- an input is a value, or so many cells from its first place on lie within its field
abbrev pub IsPlace : List (List ℤ) → ℕ → Place → Type 0
IsPlace fields cells (Same value) = IsValue value
IsPlace fields cells (From field first) = (field < length fields) × (first + cells ≤ length (field_at fields field))
