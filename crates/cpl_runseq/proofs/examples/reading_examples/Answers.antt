use Rattle.std.proofs.Common.{Option, refl}
use Rattle.cpl_sequence.specs.declared.element.Element.{Element}
use Rattle.cpl_sequence.specs.declared.element.Element.TheFolds.{fold-roll-Element}
use Rattle.cpl_runseq.specs.EmptyLoops.{filled_step}
use Rattle.cpl_runseq.specs.Whole.{sequence_of}
use Rattle.cpl_runseq.proofs.examples.reading_examples.Goals as goal

pub returns : goal.returns
unfolding sequence_of
returns c = record {
  nested_loop = refl;
  own_step = refl;
  arrows = refl;
  last_option = refl;
  empty_loops = refl;
  uneven_step = refl;
  span_mismatch = refl;
  step_unset = refl;
  bad_step_nested = refl;
  substep_uneven = refl;
  stray = refl;
  run_outside = refl;
  link_outside = refl;
  too_deep = refl;
  bad_step_zero = refl;
  bad_step_form = refl;
  bad_step_before_depth = refl;
  two_ats = refl;
  loop_of_two_words = refl;
  three_words = refl;
  arrow_alone = refl;
  component_unknown = refl;
  linked_unknown = refl;
  phase_unknown = refl;
  self_link = refl;
  method_unsupported = refl;
  option_without_colon = refl;
  option_bad_terms = refl;
  weights_without_file = refl;
  weights = refl;
  options_differ = refl;
  unclosed = refl;
  duration_missing = refl;
  duration_missing_first = refl;
  nothing_left = refl;
  no_loops = refl;
  no_loops_no_stop = refl;
  too_long = refl;
  empty_loop_goes = simp (fold-roll-Element (Option Element) filled_step);
  empty_loops_go = simp (fold-roll-Element (Option Element) filled_step);
}
