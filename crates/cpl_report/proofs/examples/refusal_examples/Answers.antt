use Rattle.std.proofs.Common.{refl}
use Rattle.std.specs.Fmt.{digits}
use Rattle.cpl_report.proofs.examples.refusal_examples.Goals as goal

pub returns : goal.returns
unfolding digits
returns c = record {
  names = refl;
  first = refl;
  label = refl;
  spans = refl;
  ambiguous = refl;
  unmatched = refl;
  last = refl;
  no_words = refl;
}
