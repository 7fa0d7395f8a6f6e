use Rattle.std.proofs.Common.{refl}
use Rattle.std.specs.Fmt.{digits}
use Rattle.cpl_base.specs.Numerals.{value_text}
use Rattle.cpl_trace.specs.Lines.{columns_of, head_line, line_of}
use Rattle.cpl_trace.proofs.examples.trace_examples.Goals as goal

pub returns : goal.returns
unfolding value_text digits head_line columns_of line_of
returns c = record {
  by_operation = refl;
  by_field = refl;
  not_before_itself = refl;
  sum = refl;
  has = refl;
  has_not = refl;
  merged = refl;
  text = refl;
  no_rows = refl;
}
