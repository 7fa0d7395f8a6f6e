-- The examples hold by computing.
use Rattle.std.proofs.Common.{refl}
use Rattle.std.specs.Fmt.{digits}
use Rattle.cpl_gen.proofs.examples.config_examples.Goals as goal

pub returns : goal.returns
unfolding digits
returns c = record {
  state = refl;
  of_zero = refl;
  a_line = refl;
  beginning = refl;
}
