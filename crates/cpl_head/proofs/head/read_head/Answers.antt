use Rattle.std.proofs.Common.{◌<ℤ◌, rules, SFits, w64, to_z, of_z, IfSome}
use Rattle.std.proofs.lemmas.Int.{to_z-of_z}
use Rattle.cpl_calendar.specs.Calendar.{InTime}
use Rattle.cpl_head.specs.Times.{room_after}
use Rattle.cpl_head.proofs.HeadFacts.{head-is}
use Rattle.cpl_head.proofs.head.read_head.Goals as goal

-- the start fits its type, so it is kept as it is
pub returns-clause-head : goal.returns-clause-head
returns-clause-head c =
    let fits : SFits w64 c.in_ok-start.start = search rules in
    let start = to_z w64 (of_z w64 c.in_ok-start.start) in
    let within : InTime c.in_ok-cal.cal start = rw (to_z-of_z w64 c.in_ok-start.start fits) c.in_ok-start.ensures.within in
    let below : IfSome c.in_ok-span.span (λ s. s <ℤ room_after c.in_ok-cal.cal start) = c.in_ok-span.ensures.below in
    head-is _ c.in_ok-components.ensures.names within c.in_ok-span.ensures.least below c.in_ok-time_step.ensures.step
