use Rattle.std.proofs.Common.{◌≡◌, ◌∙◌, ap, refl}
use Rattle.cpl_formula.proofs.ValuesFacts.{values}
use Rattle.cpl_sweep.proofs.RowsFacts.{rows_of-Input, rows_of-Less, rows_of-Plus, rows_of-Times}
use Rattle.cpl_sweep.specs.Examples.{difference, product, sum_of_inputs, sum_with_difference}
use Rattle.cpl_sweep.specs.Rows.{no_rows, rows_of, rows_of_two}
use Rattle.cpl_sweep.proofs.examples.sweep_examples.Goals as goal

rows_of-difference : rows_of difference ≡ rows_of_two no_rows no_rows
rows_of-difference = rows_of-Less _ _ ∙ (λ i. rows_of_two (rows_of-Input 1 i) (rows_of-Input 0 i))

rows_of-left : rows_of sum_of_inputs ≡ rows_of_two no_rows no_rows
rows_of-left = rows_of-Plus _ _ ∙ (λ i. rows_of_two (rows_of-Input 0 i) (rows_of-Input 2 i))

rows_of-right : rows_of sum_with_difference ≡ rows_of_two no_rows (rows_of_two no_rows no_rows)
rows_of-right = rows_of-Plus _ difference ∙ (λ i. rows_of_two (rows_of-Input 3 i) (rows_of-difference i))

rows_of-product : rows_of product ≡ rows_of_two (rows_of_two no_rows no_rows) (rows_of_two no_rows (rows_of_two no_rows no_rows))
rows_of-product = rows_of-Times sum_of_inputs sum_with_difference ∙ (λ i. rows_of_two (rows_of-left i) (rows_of-right i))

pub returns : goal.returns
returns c = record {
  first_cell = refl;
  second_cell = refl;
  no_cells = refl;
  inputs = simp values;
  differences = simp values;
  products = simp values;
  rows_of_input = ap (λ rows. rows.beside) (rows_of-Input 0);
  rows_of_difference = ap (λ rows. rows.beside) rows_of-difference;
  rows_of_product = ap (λ rows. rows.beside) rows_of-product;
}
