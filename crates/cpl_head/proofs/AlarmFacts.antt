-- A table of alarms, and one more behind them.
use Rattle.std.proofs.Common.{◌≡◌, ℕ, true, false, if◌then◌else◌, List, [], ◌∷◌, ◌++◌, length, Some, refl, ap, arith, ◌∙◌, length-append}
use Rattle.std.proofs.lemmas.Bool.{and_from}
use Rattle.std.proofs.lemmas.List.{append_assoc, append-nil}
use Rattle.std.proofs.lemmas.List.Elements.{All-push}
use Rattle.std.proofs.lemmas.List.Folds.{list_all-append}
use Rattle.std.specs.List.{list_all, list_any}
use Rattle.std.specs.Option.{is_none}
use Rattle.std.specs.Str.{bytes_eq}
use Rattle.cpl_base.specs.Words.{are_distinct, is_name, repeat_behind}
use Rattle.cpl_clock.specs.Alarm.{IsRegular}
use Rattle.cpl_head.specs.Alarms.{AreAlarms, IsNewAlarm, is_taken, with_alarm}
use Rattle.cpl_head.specs.declared.alarm_words.NamedAlarm.{NamedAlarm}
use Rattle.cpl_head.specs.declared.alarms.AlarmTable.{AlarmTable}

-- a text that is none of those before it changes no repeat
repeat_behind-fresh : (text : List ℕ) (before texts : List (List ℕ)) → is_taken (before ++ texts) text ≡ false → repeat_behind before (texts ++ text ∷ []) ≡ repeat_behind before texts
repeat_behind-fresh text before [] fresh =
    let here : list_any (λ other. bytes_eq other text) before ≡ false = rw (append-nil before) at fresh in
    rw here refl
repeat_behind-fresh text before (t ∷ ts) fresh =
    ap (λ found. if list_any (λ other. bytes_eq other t) before then Some (length before) else found)
    (repeat_behind-fresh text (before ++ t ∷ []) ts (rw (append_assoc before (t ∷ []) ts) fresh))

-- so distinct texts with it are distinct
are_distinct-fresh : (texts : List (List ℕ)) (text : List ℕ) → is_taken texts text ≡ false → are_distinct (texts ++ text ∷ []) ≡ are_distinct texts
are_distinct-fresh texts text fresh = ap is_none (repeat_behind-fresh text [] texts fresh)

-- a table with one more alarm, which is new
pub with_alarm-are : (table : AlarmTable) (named : NamedAlarm) → AreAlarms table → IsNewAlarm table.names named → AreAlarms (with_alarm table named)
with_alarm-are table named are new = record {
  few = let longer = length-append table.names (named.name ∷ []) in omega (arith, new.room);
  paired =
      let names = length-append table.names (named.name ∷ []) in
      let alarms = length-append table.alarms (named.alarm ∷ []) in
      omega (arith, are.paired);
  named =
      list_all-append is_name table.names (named.name ∷ [])
      ∙ and_from (list_all is_name table.names) (list_all is_name (named.name ∷ [])) are.named (and_from (is_name named.name) true new.name_is refl);
  distinct = are_distinct-fresh table.names named.name new.fresh ∙ are.distinct;
  regular = All-push IsRegular table.alarms named.alarm are.regular new.regular;
}
