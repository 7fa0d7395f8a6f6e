-- The definitions of rules over a block, evaluated on examples.
use Rattle.std.specs.Prelude.{◌≡◌, pos, neg_ℤ, [], ◌∷◌}
use Rattle.cpl_block.specs.Examples.{corner, numbers}
use Rattle.cpl_block.specs.Frames.{step_to}
use Rattle.cpl_comp.specs.declared.component.Rule.TheVariants.{Native}
use Rattle.cpl_comp.specs.ReadingExamples.{plus_half}
use Rattle.cpl_formula.specs.Reads.{read_at}
use Rattle.cpl_formula.specs.declared.arguments.Argument.TheVariants.{Number, Cell}
use Rattle.cpl_formula.specs.declared.formula.ReadName.TheVariants as names
use Rattle.cpl_sweep.specs.Places.{inputs_at}
use Rattle.cpl_sweep.specs.declared.place.Place.TheVariants.{Same, From}
use Rattle.cpl_rule.specs.Inputs.{arguments_of, place_of, places_of_rule}
use Rattle.cpl_rule.specs.declared.moment.Moment.{Moment}

-- Where what is read comes from on a block of two cells with a ring, for a component of four fields: a field below and to
-- the left, and the numbers of the cell itself from the fields behind those of the component; and what such places show.
pub record RuleExamples (moment : Moment) : Type 0 where
  pub here : place_of corner 4 moment (Cell (read_at (names.Field 2) (pos 0) (pos 0))) ≡ From 2 5
  pub below_left : place_of corner 4 moment (Cell (read_at (names.Field 2) (neg_ℤ (pos 1)) (pos 1))) ≡ From 2 8
  pub column : place_of corner 4 moment (Cell (read_at names.I (pos 0) (pos 0))) ≡ From 4 5
  pub row : place_of corner 4 moment (Cell (read_at names.J (pos 0) (pos 0))) ≡ From 5 5
  pub cell : place_of corner 4 moment (Cell (read_at names.S (pos 0) (pos 0))) ≡ From 6 5
  pub columns : place_of corner 4 moment (Cell (read_at names.Nx (pos 0) (pos 0))) ≡ Same (pos 3000000)
  pub rows : place_of corner 4 moment (Cell (read_at names.Ny (pos 0) (pos 0))) ≡ Same (pos 2000000)
  pub number : place_of corner 4 moment (Number (pos 7)) ≡ Same (pos 7)
  pub of_formula : places_of_rule corner 4 moment plus_half ≡ From 0 6 ∷ []
  pub of_call : arguments_of (Native 3 (Number (pos 7) ∷ [])) ≡ Number (pos 7) ∷ []
  pub shown : inputs_at (From 0 8 ∷ Same (pos 7) ∷ []) (numbers ∷ []) (step_to corner 1 0) ≡ pos 9 ∷ pos 7 ∷ []
