-- What a resource file says of a run as a whole, in the order in which it is judged.
use Rattle.std.specs.Prelude.{ℕ, pos, ◌≤ℤ◌, ◌<ℤ◌, ◌^◌, List, codes, is_some, IfSome, Result, Ok}
use Rattle.std.specs.Option.{ok_or}
use Rattle.cpl_base.specs.ResultChain.{◌>>=◌, ok_if}
use Rattle.cpl_calendar.specs.Calendar.{InTime, end_of_time}
use Rattle.cpl_config.specs.Items.{table_under, value_under}
use Rattle.cpl_config.specs.declared.entry.Entry.{Entry}
use Rattle.cpl_config.specs.declared.row.Row.{Row}
use Rattle.cpl_head.specs.Components.{AreComponents, components_in}
use Rattle.cpl_head.specs.Times.{IsStep, calendar_in, room_after, span_in, start_in, time_step_in}
use Rattle.cpl_head.specs.declared.fault.HeadFault.{HeadFault}
use Rattle.cpl_head.specs.declared.fault.HeadFault.TheVariants.{MissingLabel}
use Rattle.cpl_head.specs.declared.head.Head.{Head}

-- the value item of a label that must be there
abbrev pub needed_value : List ℕ → List Entry → Result Row HeadFault
needed_value label entries = ok_or (value_under label entries) (MissingLabel label)

-- the table of a label that must be there is there
abbrev pub table_check : List ℕ → List Entry → Result (Unit {0}) HeadFault
table_check label entries = ok_if (is_some (table_under label entries)) (MissingLabel label)

-- what a file says of the run as a whole, or the first fault
unfoldable pub head_of : List Entry → Result Head HeadFault
head_of entries =
    needed_value (codes "EARTH_component_list") entries >>= (λ list.
    table_check (codes "runSeq") entries >>= (λ _.
    components_in list >>= (λ components.
    calendar_in (value_under (codes "calendar") entries) >>= (λ cal.
    start_in cal (value_under (codes "startTime") entries) >>= (λ start.
    span_in cal start (value_under (codes "stopTime") entries) >>= (λ span.
    time_step_in (value_under (codes "timeStep") entries) >>= (λ time_step.
    Ok (record { components = components; cal = cal; start = start; span = span; time_step = time_step }))))))))

-- What holds of a head: its names, its start, how long the run may last, and the span and the step, where given.
pub record IsHead (head : Head) : Type 0 where
  pub components : AreComponents head.components
  pub start : InTime head.cal head.start
  pub end_most : pos (end_of_time head.cal) ≤ℤ pos (2 ^ 40)
  pub room_least : pos 1 ≤ℤ room_after head.cal head.start
  pub room_most : room_after head.cal head.start ≤ℤ pos (2 ^ 40)
  pub span_least : IfSome head.span (λ span. pos 1 ≤ℤ span)
  pub span_below : IfSome head.span (λ span. span <ℤ room_after head.cal head.start)
  pub step : IfSome head.time_step IsStep
