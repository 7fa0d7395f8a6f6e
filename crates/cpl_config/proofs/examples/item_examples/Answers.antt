use Rattle.std.proofs.Common.{refl}
use Rattle.cpl_text.specs.Lines.{lines_of}
use Rattle.cpl_config.specs.Items.{items_of}
use Rattle.cpl_config.proofs.examples.item_examples.Goals as goal

pub returns : goal.returns
unfolding items_of lines_of
returns c = record {
  empty = refl;
  value = refl;
  value_behind_the_colon = refl;
  value_with_colons = refl;
  no_values = refl;
  table = refl;
  table_without_rows = refl;
  rows_of_colons = refl;
  three_colons = refl;
  mixed = refl;
  no_colon = refl;
  colon_alone = refl;
  colon_first = refl;
  opening_with_words = refl;
  stray = refl;
  stray_with_words = refl;
  value_twice = refl;
  table_twice = refl;
  twice_before_unclosed = refl;
  unclosed = refl;
  first_of_two = refl;
  faults_before_unclosed = refl;
  value_under_label = refl;
  table_under_label = refl;
  no_table_under_label = refl;
  no_value_under_label = refl;
}
