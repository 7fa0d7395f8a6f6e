-- What holds of a head, by its parts.
use Rattle.std.proofs.Common.{pos, ◌≤ℤ◌, ◌<ℤ◌, IfSome}
use Rattle.cpl_calendar.specs.Calendar.{InTime}
use Rattle.cpl_head.specs.Components.{AreComponents}
use Rattle.cpl_head.specs.Head.{IsHead}
use Rattle.cpl_head.specs.Times.{IsStep, room_after}
use Rattle.cpl_head.specs.declared.head.Head.{Head}
use Rattle.cpl_head.proofs.TimesFacts.{end_of_time-most, room_after-least, room_after-most}

-- a head of such parts
pub head-is : (head : Head) → AreComponents head.components → InTime head.cal head.start → IfSome head.span (λ span. pos 1 ≤ℤ span) → IfSome head.span (λ span. span <ℤ room_after head.cal head.start) → IfSome head.time_step IsStep → IsHead head
head-is head components start least below step = record {
  components = components;
  start = start;
  end_most = end_of_time-most head.cal;
  room_least = room_after-least head.cal head.start start;
  room_most = room_after-most head.cal head.start start;
  span_least = least;
  span_below = below;
  step = step;
}
