-- The alarms of a run by the rows of their table, one after another.
use Rattle.std.specs.Prelude.{◌≡◌, ℕ, pos, ◌<◌, ◌≤◌, Bool, false, true, not, ◌&&◌, if◌then◌else◌, nat_lt, List, [], ◌∷◌, ◌++◌, length, codes, Option, Some, None, option_and_then, option_map, Result, Ok}
use Rattle.std.specs.List.{All, list_all, list_any}
use Rattle.std.specs.Option.{ok_or}
use Rattle.std.specs.Str.{bytes_eq}
use Rattle.cpl_base.specs.Numerals.{number_between}
use Rattle.cpl_base.specs.ResultChain.{◌>>=◌, ok_if}
use Rattle.cpl_base.specs.Words.{are_distinct, is_name}
use Rattle.cpl_clock.specs.Alarm.{IsRegular}
use Rattle.cpl_clock.specs.declared.alarm.Alarm.{Alarm}
use Rattle.cpl_clock.specs.declared.alarm.Alarm.TheVariants.{Every, Monthly}
use Rattle.cpl_config.specs.declared.entry.Entry.{Entry}
use Rattle.cpl_config.specs.declared.row.Row.{Row}
use Rattle.cpl_head.specs.Tables.{rows_under}
use Rattle.cpl_head.specs.declared.alarms.AlarmTable.{AlarmTable}
use Rattle.cpl_head.specs.declared.alarm_words.NamedAlarm.{NamedAlarm}
use Rattle.cpl_head.specs.declared.fault.TableFault.{TableFault}
use Rattle.cpl_head.specs.declared.fault.TableFault.TheVariants.{BadValue}

-- ---- the form of a row

-- an alarm each so many seconds, from 1 to a thousand million, first after some, from 0 to a thousand million
abbrev pub every_words : List ℕ → List ℕ → Option Alarm
every_words interval first =
    option_and_then (λ s. option_map (λ f. Every (pos f) (pos s)) (number_between 0 1000000000 first))
    (number_between 1 1000000000 interval)

-- when an alarm rings, by the words behind its name: `every S from F` or `monthly`
abbrev pub alarm_words : List (List ℕ) → Option Alarm
alarm_words (monthly ∷ []) = if bytes_eq monthly (codes "monthly") then Some Monthly else None
alarm_words (every ∷ interval ∷ from ∷ first ∷ []) =
    if bytes_eq every (codes "every") && bytes_eq from (codes "from") then every_words interval first else None
alarm_words words = None

-- the alarm with its name that the words of a row say
abbrev pub named_alarm : List (List ℕ) → Option NamedAlarm
named_alarm [] = None
named_alarm (name ∷ words) =
    if is_name name then option_map (λ alarm. record { name = name; alarm = alarm }) (alarm_words words) else None

-- ---- the table

-- whether a name is one of these
abbrev pub is_taken : List (List ℕ) → List ℕ → Bool
is_taken names name = list_any (λ other. bytes_eq other name) names

-- the alarm of a row, behind alarms of these names: fewer than 64, and its own is none of them
abbrev pub alarm_behind : List (List ℕ) → Row → Result NamedAlarm TableFault
alarm_behind names row =
    ok_or (named_alarm row.words) (BadValue row.line) >>= (λ named.
    ok_if (not (is_taken names named.name) && nat_lt (length names) 64) (BadValue row.line) >>= (λ _.
    Ok named))

-- the table with one more alarm
abbrev pub with_alarm : AlarmTable → NamedAlarm → AlarmTable
with_alarm table named =
    record { names = table.names ++ named.name ∷ []; alarms = table.alarms ++ named.alarm ∷ [] }

-- the table with the alarms of further rows, or the first fault
abbrev pub with_alarms : AlarmTable → List Row → Result AlarmTable TableFault
with_alarms table [] = Ok table
with_alarms table (row ∷ rows) =
    alarm_behind table.names row >>= (λ named. with_alarms (with_alarm table named) rows)

-- no alarms
abbrev pub no_alarms : AlarmTable
no_alarms = record { names = []; alarms = [] }

-- the alarms of a file, or the first fault
unfoldable pub alarms_of : List Entry → Result AlarmTable TableFault
alarms_of entries = with_alarms no_alarms (rows_under (codes "alarms") entries)

-- What holds of a table of alarms: at most 64, each with a name of its own, and each can be asked whether it rings.
pub record AreAlarms (table : AlarmTable) : Type 0 where
  pub few : length table.names ≤ 64
  pub paired : length table.alarms ≡ length table.names
  pub named : list_all is_name table.names ≡ true
  pub distinct : are_distinct table.names ≡ true
  pub regular : All IsRegular table.alarms

-- An alarm that can stand behind alarms of these names: fewer than 64, and its own is none of them.
pub record IsNewAlarm (names : List (List ℕ)) (named : NamedAlarm) : Type 0 where
  pub room : length names < 64
  pub name_is : is_name named.name ≡ true
  pub fresh : is_taken names named.name ≡ false
  pub regular : IsRegular named.alarm
