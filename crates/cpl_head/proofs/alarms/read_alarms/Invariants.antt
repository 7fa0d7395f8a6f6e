use Rattle.std.proofs.Common.{◌≡◌, drop}
use Rattle.cpl_head.specs.Alarms.{AreAlarms, no_alarms, with_alarms}
use Rattle.cpl_head.specs.declared.alarms.AlarmTable.{AlarmTable}
use Rattle.cpl_head.proofs.alarms.read_alarms.Given as goal

-- reading on gives what reading all gives; what holds of the alarms so far
abbrev pub invariant-loop-row : goal.invariant-loop-row
invariant-loop-row l =
    let table : AlarmTable = record { names = l.names.items; alarms = l.alarms.items } in
    (with_alarms table (drop l.row-index l.row-items) ≡ with_alarms no_alarms l.row-items) × AreAlarms table
