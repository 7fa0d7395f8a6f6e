use Rattle.std.proofs.Common.{List, ℕ, arith, subst}
use Rattle.std.proofs.lemmas.Grind.{common_steps}
use Rattle.cpl_head.specs.Alarms.{IsNewAlarm}
use Rattle.cpl_head.proofs.AlarmFacts.{with_alarm-are}
use Rattle.cpl_head.proofs.alarms.read_alarms.Goals as goal

-- the row gives the alarm that is put behind the others
pub loop-row-preserved : goal.loop-row-preserved
loop-row-preserved c =
    let are = c.loop-row.invariant.1 in
    let named = c.in_ok-name.field-0 in
    let names = c.in_ok-push.ensures.items in
    let alarms = c.in_ok-push-2.ensures.items in
    let P : List (List ℕ) → Type 0 = λ others. IsNewAlarm others named in
    let new = subst P c.as_slice.ensures.value c.in_ok-name.ensures.new in
    (grind (arith, common_steps, c.in_ok-name.ensures.gives.value), rw (names, alarms) (with_alarm-are _ named are new))
