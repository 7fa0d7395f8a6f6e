-- The examples hold by computing.
use Rattle.std.proofs.Common.{refl}
use Rattle.cpl_rule.proofs.examples.rule_examples.Goals as goal

pub returns : goal.returns
returns c = λ moment. record {
  here = refl;
  below_left = refl;
  column = refl;
  row = refl;
  cell = refl;
  columns = refl;
  rows = refl;
  number = refl;
  of_formula = refl;
  of_call = refl;
  shown = refl;
}
