-- The serial engine's world, and what an operation finds amiss.
use Rattle.std.specs.Prelude.{◌≡◌, ℕ, ◌<◌, List, [], length, slice_get, Some}
use Rattle.std.specs.List.{All}
use Rattle.cpl_comp.specs.Readings.{EntryAnswers}
use Rattle.cpl_comp.specs.RunFaults.{Fault}
use Rattle.cpl_phase.specs.Locals.{IsAged}
use Rattle.cpl_phase.specs.declared.local.LocalComp.{LocalComp}
use Rattle.cpl_script.specs.Couplings.{Coupling}
use Rattle.cpl_script.specs.SerialRun.{phase_faults, world_before}
use Rattle.cpl_script.specs.Transfers.{World as SystemWorld}
use Rattle.cpl_sequence.specs.declared.op.Op.{Op}
use Rattle.cpl_sequence.specs.declared.op.Op.TheVariants.{Init, Link, Run}
use Rattle.cpl_serial.specs.Engines.{AreWhole, HaveRoomFor, StandForWorld}
use Rattle.cpl_serial.specs.declared.world.World.{World}

-- A world that was made for a system.
pub record IsMadeFor (coupling : Coupling) (world : World) : Type 0 where
  pub whole : AreWhole coupling world.comps
  pub room : HaveRoomFor coupling world.buffers

-- It is the system's world before the operation of a number.
pub record IsWorldBefore (coupling : Coupling) (entries : EntryAnswers) (k : ℕ) (world : World) : Type 0 where
  pub made : IsMadeFor coupling world
  pub aged : All (IsAged k) world.comps
  pub stands : StandForWorld coupling (world_before coupling entries k) world.comps

-- It has this field of this component.
pub record HasField (world : World) (component field : ℕ) : Type 0 where
  pub there : component < length world.comps
  pub below : (local : LocalComp) → slice_get world.comps component ≡ Some local → field < length local.shown

-- what an operation finds amiss in a world: runs alone check anything
abbrev pub op_faults : Coupling → EntryAnswers → SystemWorld → Op → List Fault
op_faults coupling entries world (Init component) = []
op_faults coupling entries world (Link link at_init) = []
op_faults coupling entries world (Run component phase time step at substep first last) =
    phase_faults coupling entries world component phase
    (record { time = time; step = step; at = at; substep = substep; first = first; last = last })

-- the component of an operation of a phase, 0 of others
abbrev pub run_component : Op → ℕ
run_component (Init component) = 0
run_component (Link link at_init) = 0
run_component (Run component phase time step at substep first last) = component
