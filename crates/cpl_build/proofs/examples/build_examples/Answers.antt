use Rattle.std.proofs.Common.{refl}
use Rattle.std.specs.Fmt.{digits}
use Rattle.cpl_build.proofs.examples.build_examples.Goals as goal

pub returns : goal.returns
unfolding digits
returns c = record {
  long = refl;
  ascii = refl;
  stray = refl;
  unclosed = refl;
  label = refl;
  many = refl;
  stop = refl;
  synonym = refl;
  fields = refl;
  blocks = refl;
  table = refl;
  rule = refl;
  inputs = refl;
  values = refl;
  spans = refl;
  weights = refl;
  ops = refl;
  trace = refl;
  within = refl;
  past = refl;
  passing = refl;
}
