-- The definitions of sweeps, evaluated on examples.
use Rattle.std.specs.Prelude.{◌≡◌, ℤ, pos, neg_ℤ, List, [], ◌∷◌}
use Rattle.cpl_formula.specs.declared.formula.Formula.{Formula, roll-Formula}
use Rattle.cpl_formula.specs.declared.formula.Formula.TheOpen as tree
use Rattle.cpl_sweep.specs.Places.{inputs_at, values_over}
use Rattle.cpl_sweep.specs.Rows.{scratch_rows}
use Rattle.cpl_sweep.specs.declared.place.Place.{Place}
use Rattle.cpl_sweep.specs.declared.place.Place.TheVariants.{Same, From}

-- two fields
abbrev pub two_fields : List (List ℤ)
two_fields = (pos 1000000 ∷ pos 2000000 ∷ pos 3000000 ∷ pos 4000000 ∷ []) ∷ (pos 500000 ∷ neg_ℤ (pos 1) ∷ []) ∷ []

-- the first field and its neighbour, the second field, and a number
abbrev pub some_places : List Place
some_places = From 0 1 ∷ From 0 2 ∷ From 1 0 ∷ Same (pos 7000000) ∷ []

-- an input
abbrev pub input : Formula
input = roll-Formula (tree.Input 0)

-- the difference of neighbours
abbrev pub difference : Formula
difference = roll-Formula (tree.Less (roll-Formula (tree.Input 1)) input)

-- sums of two inputs, and of an input and the difference
abbrev pub sum_of_inputs : Formula
sum_of_inputs = roll-Formula (tree.Plus input (roll-Formula (tree.Input 2)))

abbrev pub sum_with_difference : Formula
sum_with_difference = roll-Formula (tree.Plus (roll-Formula (tree.Input 3)) difference)

-- their product
abbrev pub product : Formula
product = roll-Formula (tree.Times sum_of_inputs sum_with_difference)

-- inputs at cells, values over two cells, and the strips that trees take
pub record SweepExamples : Type 0 where
  pub first_cell : inputs_at some_places two_fields 0 ≡ pos 2000000 ∷ pos 3000000 ∷ pos 500000 ∷ pos 7000000 ∷ []
  pub second_cell : inputs_at some_places two_fields 1 ≡ pos 3000000 ∷ pos 4000000 ∷ neg_ℤ (pos 1) ∷ pos 7000000 ∷ []
  pub no_cells : values_over some_places two_fields input 0 ≡ []
  pub inputs : values_over some_places two_fields input 2 ≡ pos 2000000 ∷ pos 3000000 ∷ []
  pub differences : values_over some_places two_fields difference 2 ≡ pos 1000000 ∷ pos 1000000 ∷ []
  pub products : values_over some_places two_fields product 2 ≡ pos 20000000 ∷ pos 23999992 ∷ []
  pub rows_of_input : scratch_rows input ≡ 0
  pub rows_of_difference : scratch_rows difference ≡ 0
  pub rows_of_product : scratch_rows product ≡ 2
