-- How far a serial run has come, and what it comes to where it stops.
use Rattle.std.specs.Prelude.{◌≡◌, ℕ, ◌<◌, Bool, List, drop, take, Option, Some, None, MatchOption}
use Rattle.cpl_comp.specs.Readings.{EntryAnswers}
use Rattle.cpl_script.specs.Couplings.{Coupling}
use Rattle.cpl_script.specs.OpCursors.{IsOpCursorOf, OpSpot, op_remainder}
use Rattle.cpl_script.specs.Operations.{ops_of}
use Rattle.cpl_script.specs.SerialRun.{asked_rows, op_factor, serial_outcome, total_of}
use Rattle.cpl_trace.specs.declared.row.TraceRow.{TraceRow}
use Rattle.cpl_marks.specs.declared.fault.PhaseFault.{PhaseFault}
use Rattle.cpl_serial.specs.Worlds.{IsWorldBefore}
use Rattle.cpl_serial.specs.declared.stop.Stop.{Stop}
use Rattle.cpl_serial.specs.declared.world.World.{World}

-- A run came to the operation of a number without a fault: its world is the one before that operation, and its rows are
-- those of the operations before.
pub record HasCome (coupling : Coupling) (entries : EntryAnswers) (trace : Bool) (k : ℕ) (world : World) (rows : List TraceRow) : Type 0 where
  pub before : IsWorldBefore coupling entries k world
  pub faultless : (total_of coupling entries (take k (ops_of coupling))).found ≡ None
  pub traced : rows ≡ asked_rows trace (total_of coupling entries (take k (ops_of coupling))).rows

-- A cursor gives the operation of a number next.
pub record IsCursorAt (coupling : Coupling) (k : ℕ) (spot : OpSpot) : Type 0 where
  pub cursor : IsOpCursorOf coupling spot
  pub rest : op_remainder coupling spot ≡ drop k (ops_of coupling)

-- The run comes to an outcome with this fault, and with these rows.
abbrev pub IsStopped : Coupling → EntryAnswers → Bool → List TraceRow → Stop → Type 0
IsStopped coupling entries trace rows stop =
    serial_outcome coupling entries trace ≡ record { done = stop.op; comps = stop.comps; fault = Some stop.found; trace = rows }

-- It stopped so, or came to the operation of a number.
abbrev pub StopsOrComes : Coupling → EntryAnswers → Bool → ℕ → World → List TraceRow → Option Stop → Type 0
StopsOrComes coupling entries trace k world rows stop =
    MatchOption stop (HasCome coupling entries trace k world rows) (IsStopped coupling entries trace rows)

-- A fault has a place below the factor of operations in the numbers of faults.
abbrev pub IsPlacedFault : PhaseFault → Type 0
IsPlacedFault fault = fault.place < op_factor
