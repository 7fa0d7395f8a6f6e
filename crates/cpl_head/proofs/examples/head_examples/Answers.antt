-- The examples hold by computing.
use Rattle.std.proofs.Common.{refl}
use Rattle.cpl_calendar.specs.Texts.{read_time}
use Rattle.cpl_calendar.proofs.Months.{days_before-at}
use Rattle.cpl_config.specs.Items.{items_of}
use Rattle.cpl_text.specs.Lines.{lines_of}
use Rattle.cpl_head.specs.Alarms.{alarms_of}
use Rattle.cpl_head.specs.Dictionaries.{dictionary_of}
use Rattle.cpl_head.specs.Head.{head_of}
use Rattle.cpl_head.proofs.examples.head_examples.Goals as goal

pub returns-clause-head : goal.returns-clause-head
unfolding items_of lines_of head_of read_time
returns-clause-head c = record {
  defaults = rw days_before-at refl;
  default_start = rw days_before-at refl;
  all = simp days_before-at refl;
  no_list = refl;
  no_sequence = refl;
  empty_list = refl;
  no_name = refl;
  name_twice = refl;
  no_calendar = refl;
  two_calendars = refl;
  no_start = refl;
  no_time = refl;
  year_zero = refl;
  no_day = refl;
  stop_at_start = simp days_before-at refl;
  stop_of_two_words = refl;
  no_step = refl;
  long_step = refl;
}

pub returns-clause-dictionary : goal.returns-clause-dictionary
unfolding items_of lines_of dictionary_of
returns-clause-dictionary c = record {
  no_table = refl;
  two_names = refl;
  one_word = refl;
  three_words = refl;
  one_synonym = refl;
  synonym_as_name = refl;
  name_twice = refl;
  unknown = refl;
  differing = refl;
}

pub returns-clause-alarms : goal.returns-clause-alarms
unfolding items_of lines_of alarms_of
returns-clause-alarms c = record {
  none = refl;
  two = refl;
  no_name = refl;
  no_interval = refl;
  late_first = refl;
  no_first = refl;
  name_twice = refl;
}
