use Rattle.std.proofs.Common.{refl}
use Rattle.cpl_text.specs.Lines.{faulty_line, lines_of}
use Rattle.cpl_text.proofs.examples.text_examples.Goals as goal

pub returns : goal.returns
unfolding faulty_line lines_of
returns c = record {
  empty = refl;
  two_words = refl;
  two_spans = refl;
  no_last_feed = refl;
  spans_below = refl;
  blank_lines_count = refl;
  tabs = refl;
  carriage_returns = refl;
  return_at_the_end = refl;
  comment_in_a_word = refl;
  comment_alone = refl;
  return_within = refl;
  two_returns = refl;
  return_in_a_comment = refl;
  high_byte = refl;
  high_byte_in_a_comment = refl;
  first_of_two = refl;
  delete = refl;
  tilde_tab_space = refl;
  below_space = refl;
}
