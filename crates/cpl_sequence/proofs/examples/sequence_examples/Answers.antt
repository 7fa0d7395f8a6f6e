use Rattle.std.proofs.Common.{Bool, refl}
use Rattle.cpl_sequence.specs.Sound.{linked_step}
use Rattle.cpl_sequence.specs.declared.element.Element.TheFolds.{fold-roll-Element}
use Rattle.cpl_sequence.specs.declared.element.Element.TheViews.{out-roll-Element}
use Rattle.cpl_sequence.proofs.TreeFacts.{is_nested-Link, is_nested-Loop, is_nested-Loop_zero, is_timed-Link, is_timed-Loop, is_timed-Run, element_ops-Link, element_ops-Loop, element_ops-Run}
use Rattle.cpl_sequence.proofs.examples.sequence_examples.Goals as goal

pub returns : goal.returns
returns c = record {
  hours = simp (element_ops-Link, element_ops-Run, element_ops-Loop);
  one_loop = simp (element_ops-Link, element_ops-Run);
  nothing = refl;
  at_start = simp (element_ops-Link, element_ops-Run, element_ops-Loop, out-roll-Element);
  in_second_hour = simp out-roll-Element;
  past_end = refl;
  sound = simp (is_timed-Link, is_timed-Run, is_timed-Loop);
  uneven_loop = simp is_timed-Loop;
  longer_loop = simp is_timed-Loop;
  empty_loop = simp is_timed-Loop;
  uneven_substep = simp is_timed-Run;
  nested_once = rw (is_nested-Loop, is_nested-Link) refl;
  nested_too_deep = rw (is_nested-Loop, is_nested-Loop_zero) refl;
  unlinked = simp (fold-roll-Element Bool (linked_step 1));
  joined = refl;
  not_to_the_end = refl;
  empty_top_loop = refl;
  skipped = simp element_ops-Link;
}
