-- The definitions of a file's head, of its dictionary and of its alarms, evaluated on small files.
use Rattle.std.specs.Prelude.{◌≡◌, ℕ, ℤ, pos, List, [], ◌∷◌, ◌++◌, codes, map, Option, Some, None, Result, Ok, Err}
use Rattle.cpl_calendar.specs.declared.calendar.Cal.{Cal}
use Rattle.cpl_calendar.specs.declared.calendar.Cal.TheVariants.{Gregorian, NoLeap, Day360}
use Rattle.cpl_clock.specs.declared.alarm.Alarm.TheVariants.{Every, Monthly}
use Rattle.cpl_config.specs.Items.{items_of, word_line}
use Rattle.cpl_config.specs.declared.entry.Entry.{Entry}
use Rattle.cpl_config.specs.declared.fault.ItemFault.{ItemFault}
use Rattle.cpl_dict.specs.Dict.{Dictionary}
use Rattle.cpl_head.specs.Alarms.{alarms_of, no_alarms}
use Rattle.cpl_head.specs.Dictionaries.{dictionary_of, empty_dictionary}
use Rattle.cpl_head.specs.Head.{head_of}
use Rattle.cpl_head.specs.declared.alarms.AlarmTable.{AlarmTable}
use Rattle.cpl_head.specs.declared.fault.HeadFault.{HeadFault}
use Rattle.cpl_head.specs.declared.fault.HeadFault.TheVariants.{BadTime, MissingLabel, NoSuchDay, StopNotAfter, YearRange}
use Rattle.cpl_head.specs.declared.fault.HeadFault.TheVariants as head
use Rattle.cpl_head.specs.declared.fault.TableFault.{TableFault}
use Rattle.cpl_head.specs.declared.fault.TableFault.TheVariants.{BadValue, NameTwice, NameUnknown, UnitsDiffer}
use Rattle.cpl_head.specs.declared.head.Head.{Head}
use Rattle.cpl_text.specs.Lines.{lines_of}

-- the entries of a file without faults
abbrev pub entries_of : Result (List Entry) ItemFault → List Entry
entries_of (Ok entries) = entries
entries_of (Err e) = []

-- the entries of a text
abbrev pub entries_in : List ℕ → List Entry
entries_in text = entries_of (items_of (map word_line (lines_of text)))

-- ---- the run as a whole

-- the head of a text
abbrev pub head_in : List ℕ → Result Head HeadFault
head_in text = head_of (entries_in text)

-- a list of two components, an empty run sequence, and further lines from the fourth on
abbrev pub two_models : List ℕ → List ℕ
two_models more = codes "EARTH_component_list: A B\nrunSeq::\n::\n" ++ more

-- the head of two components
abbrev pub head_of_two : Cal → ℤ → Option ℤ → Option ℤ → Head
head_of_two cal start span time_step =
    record { components = codes "A" ∷ codes "B" ∷ []; cal = cal; start = start; span = span; time_step = time_step }

-- heads, and files with their faults
pub record HeadExamples : Type 0 where
  pub defaults : head_in (two_models []) ≡ Ok (head_of_two Gregorian (pos 63082281600) None None)
  pub default_start :
      head_in (two_models (codes "calendar: 360day"))
      ≡ Ok (head_of_two Day360 (pos 62176896000) None None)
  pub all :
      head_in (two_models (codes "timeStep: 007\nstopTime: 2000-03-01T00:00:01\nstartTime: 2000-02-28T00:00:00\ncalendar: noleap"))
      ≡ Ok (head_of_two NoLeap (pos 63045475200) (Some (pos 86401)) (Some (pos 7)))
  pub no_list : head_in (codes "EARTH_component_list::\nA\n::\n") ≡ Err (MissingLabel (codes "EARTH_component_list"))
  pub no_sequence : head_in (codes "EARTH_component_list:\nrunSeq: A") ≡ Err (MissingLabel (codes "runSeq"))
  pub empty_list : head_in (codes "\nEARTH_component_list:\ncalendar: x\nrunSeq::\n::") ≡ Err (head.BadValue 2)
  pub no_name : head_in (codes "EARTH_component_list: A b-c\nrunSeq::\n::") ≡ Err (head.BadValue 1)
  pub name_twice : head_in (codes "EARTH_component_list: A B A\nrunSeq::\n::") ≡ Err (head.BadValue 1)
  pub no_calendar : head_in (two_models (codes "startTime: x\ncalendar: julian")) ≡ Err (head.BadValue 5)
  pub two_calendars : head_in (two_models (codes "calendar: noleap noleap")) ≡ Err (head.BadValue 4)
  pub no_start : head_in (two_models (codes "startTime:")) ≡ Err (head.BadValue 4)
  pub no_time : head_in (two_models (codes "stopTime: x\nstartTime: 2000-13-01T00:00:00")) ≡ Err (BadTime 5)
  pub year_zero : head_in (two_models (codes "startTime: 0000-01-01T00:00:00")) ≡ Err (YearRange 4)
  pub no_day : head_in (two_models (codes "calendar: noleap\nstartTime: 2000-02-29T00:00:00")) ≡ Err (NoSuchDay 5)
  pub stop_at_start : head_in (two_models (codes "timeStep: 0\nstopTime: 2000-01-01T00:00:00")) ≡ Err (StopNotAfter 5)
  pub stop_of_two_words : head_in (two_models (codes "stopTime: 2000-01-02 00:00:00")) ≡ Err (head.BadValue 4)
  pub no_step : head_in (two_models (codes "timeStep: 0")) ≡ Err (head.BadValue 4)
  pub long_step : head_in (two_models (codes "timeStep: 1000000001")) ≡ Err (head.BadValue 4)

-- ---- the dictionary

-- the dictionary of a text
abbrev pub dictionary_in : List ℕ → Result Dictionary TableFault
dictionary_in text = dictionary_of (entries_in text)

-- two names of kelvins that stand for one another
abbrev pub two_temperatures : Dictionary
two_temperatures =
    record { names = (codes "t", codes "K") ∷ (codes "tas", codes "K") ∷ []; calls = (codes "t" ∷ codes "tas" ∷ []) ∷ [] }

-- dictionaries, and tables with their faults
pub record DictionaryExamples : Type 0 where
  pub no_table : dictionary_in (codes "dictionary: t K") ≡ Ok empty_dictionary
  pub two_names : dictionary_in (codes "dictionary::\nt K\ntas K\nsynonym t tas\n::") ≡ Ok two_temperatures
  pub one_word : dictionary_in (codes "dictionary::\nt\n::") ≡ Err (BadValue 2)
  pub three_words : dictionary_in (codes "dictionary::\nt K x\n::") ≡ Err (BadValue 2)
  pub one_synonym : dictionary_in (codes "dictionary::\nt K\nsynonym t\n::") ≡ Err (BadValue 3)
  pub synonym_as_name : dictionary_in (codes "dictionary::\nsynonym t synonym\n::") ≡ Err (BadValue 2)
  pub name_twice : dictionary_in (codes "dictionary::\nt K\nt m\nu\n::") ≡ Err (NameTwice 3)
  pub unknown : dictionary_in (codes "dictionary::\nt K\nsynonym u t\nu K\n::") ≡ Err (NameUnknown 3)
  pub differing : dictionary_in (codes "dictionary::\nt K\nu m\nsynonym u t\n::") ≡ Err (UnitsDiffer 4)

-- ---- the alarms

-- the alarms of a text
abbrev pub alarms_in : List ℕ → Result AlarmTable TableFault
alarms_in text = alarms_of (entries_in text)

-- an alarm each day, from the second hour on, and one with each month
abbrev pub two_alarms : AlarmTable
two_alarms =
    record { names = codes "day" ∷ codes "month" ∷ []; alarms = Every (pos 3600) (pos 86400) ∷ Monthly ∷ [] }

-- alarms, and tables with their faults
pub record AlarmExamples : Type 0 where
  pub none : alarms_in [] ≡ Ok no_alarms
  pub two : alarms_in (codes "alarms::\nday every 86400 from 3600\nmonth monthly\n::") ≡ Ok two_alarms
  pub no_name : alarms_in (codes "alarms::\n1 monthly\n::") ≡ Err (BadValue 2)
  pub no_interval : alarms_in (codes "alarms::\nday every 0 from 0\n::") ≡ Err (BadValue 2)
  pub late_first : alarms_in (codes "alarms::\nday every 1 from 1000000001\n::") ≡ Err (BadValue 2)
  pub no_first : alarms_in (codes "alarms::\nday every 1\n::") ≡ Err (BadValue 2)
  pub name_twice : alarms_in (codes "alarms::\nday monthly\nday every 1 from 0\n::") ≡ Err (BadValue 3)
