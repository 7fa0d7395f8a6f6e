-- A component on a block: what holds of it, and the world that it stands for.
use Rattle.std.specs.Prelude.{◌≡◌, ℕ, ◌<◌, ◌≤◌, ◌^◌, pos, Bool, true, if◌then◌else◌, List, ◌++◌, length, map, slice_get, Some}
use Rattle.std.specs.List.{All, flat_map}
use Rattle.cpl_base.specs.Numbers.{IsValue}
use Rattle.cpl_block.specs.Frames.{IsFrame}
use Rattle.cpl_block.specs.Rings.{IsRing}
use Rattle.cpl_block.specs.declared.frame.Frame.{Frame}
use Rattle.cpl_comp.specs.Components.{IsComponent, Limits}
use Rattle.cpl_comp.specs.Marks.{marks_of}
use Rattle.cpl_comp.specs.RunFaults.{Fault, average_faults, cell_faults, first_faults}
use Rattle.cpl_comp.specs.Readings.{EntryAnswers}
use Rattle.cpl_comp.specs.Timing.{Timing}
use Rattle.cpl_comp.specs.Turns.{Turn, places_of, reading_of, step_ended}
use Rattle.cpl_comp.specs.Worlds.{CompWorld, FieldWorld, field_at as world_at}
use Rattle.cpl_comp.specs.Writes.{fields_started}
use Rattle.cpl_comp.specs.declared.component.Comp.{Comp}
use Rattle.cpl_comp.specs.declared.component.Phase.{Phase}
use Rattle.cpl_comp.specs.declared.component.Role.TheVariants.{Export}
use Rattle.cpl_entry.specs.Entries.{NativeEntry}
use Rattle.cpl_grid.specs.Parts.{cells_of_part}
use Rattle.cpl_marks.specs.Plans.{IsPlanOf, IsPlanWithin}
use Rattle.cpl_marks.specs.Held.{marks_in}
use Rattle.cpl_marks.specs.declared.plan.StampPlan.{StampPlan}
use Rattle.cpl_rule.specs.Demands.{CanBeMet, IsDemandOf}
use Rattle.cpl_rule.specs.Inputs.{AreFields, HaveNumbers}
use Rattle.cpl_sweep.specs.Places.{field_at}
use Rattle.cpl_phase.specs.Kept.{AreAccums, StandForKept, accum_at}
use Rattle.cpl_phase.specs.Sites.{AreSites}
use Rattle.cpl_phase.specs.Rooms.{IsSpareFor, cell_count, is_kept_by}
use Rattle.cpl_phase.specs.Starts.{places_started}
use Rattle.cpl_phase.specs.Worlds.{HoldFields, block_values}
use Rattle.cpl_phase.specs.declared.local.LocalComp.{LocalComp}

-- ---- the component

-- A component that was realised, among so many alarms and over these native entries.
pub record IsAccepted (alarms : ℕ) (book : List NativeEntry) (comp : Comp) : Type 0 where
  pub limits : Limits
  pub is : IsComponent limits comp
  pub alarm_count : limits.alarms ≡ alarms
  pub inputs : limits.inputs ≡ map (λ entry. entry.inputs) book

-- A component that was realised, within whatever limits.
pub record IsRealised (comp : Comp) : Type 0 where
  pub limits : Limits
  pub is : IsComponent limits comp

-- ---- what holds of a component on a block

-- Plans of the phases of a component, one each.
pub record ArePlans (comp : Comp) (connected : List Bool) (plans : List StampPlan) : Type 0 where
  pub number : length plans ≡ length comp.phases
  pub each : (p : ℕ) (phase : Phase) (plan : StampPlan) → slice_get comp.phases p ≡ Some phase → slice_get plans p ≡ Some plan → IsPlanOf comp phase connected plan
  pub within : All (IsPlanWithin (length comp.fields)) plans

-- A component on a block of its grid.
pub record IsLocal (comp : Comp) (local : LocalComp) : Type 0 where
  pub frame : IsFrame local.frame
  pub over : local.frame.grid ≡ comp.decomp.grid
  pub demand : IsDemandOf comp local.demand
  pub met : CanBeMet local.demand
  pub rx : local.frame.rx ≡ local.demand.rx
  pub ry : local.frame.ry ≡ local.demand.ry
  pub ring : IsRing local.frame local.area.ring
  pub sites : AreSites local.frame local.area.sites
  pub connected : length local.connected ≡ length comp.fields
  pub plans : ArePlans comp local.connected local.plans
  pub exports : local.exports ≡ places_of Export comp.fields
  pub started : local.started ≡ places_started comp.fields
  pub stamps : length local.marks.stamps ≡ length comp.fields
  pub fields : AreFields local.frame (length comp.fields) local.fields
  pub numbers : HaveNumbers local.frame (length comp.fields) local.fields
  pub accums : AreAccums (cell_count local.frame) (length comp.fields) local.accums
  pub sums : (k : ℕ) → k < length comp.fields → is_kept_by comp k ≡ true → length (accum_at local.accums k).sums ≡ cell_count local.frame
  pub shown : length local.shown ≡ length comp.fields
  pub shown_cells : All (λ values. length values ≡ cell_count local.frame) local.shown
  pub shown_values : All (All IsValue) local.shown
  pub spare : IsSpareFor comp local.frame local.demand local.spare

-- At most so many operations were carried out: so many runs ended, and so many values were kept for any field.
pub record IsAged (done : ℕ) (local : LocalComp) : Type 0 where
  pub runs : local.marks.runs ≤ done
  pub kept : All (λ accum. accum.count ≤ done) local.accums

-- Few enough operations were carried out for one more.
pub record IsYoung (local : LocalComp) : Type 0 where
  pub runs : local.marks.runs < 2 ^ 24
  pub kept : All (λ accum. accum.count < 2 ^ 24) local.accums

-- ---- the world that it stands for

-- A component on a block stands for a whole component: it has its clock, its stamps and its number of runs; and at the block's
-- cells its values, and the sums of what is kept.
pub record StandsForComp (comp : Comp) (world : CompWorld) (local : LocalComp) : Type 0 where
  pub marks : marks_of world ≡ marks_in local.marks
  pub values : HoldFields local.frame (length comp.fields) world.fields local.fields
  pub kept : StandForKept local.frame (length comp.fields) world.fields local.accums
  pub shown : (k : ℕ) → k < length comp.fields → field_at local.shown k ≡ block_values local.frame (world_at world.fields k)

-- a component behind an operation of a phase: where the operation is the last of its step, the step is ended
abbrev pub comp_at_end : Comp → Phase → Turn → CompWorld → CompWorld
comp_at_end comp phase turn world = if turn.last then step_ended comp phase turn world else world

-- a component after its start rules, without the stamps of its exports
abbrev pub comp_started : Timing → EntryAnswers → Comp → CompWorld → CompWorld
comp_started timing entries comp world =
    record world { fields = fields_started (reading_of timing entries comp world.fields (pos 0) (pos 0)) world.fields comp.fields }

-- What an operation of a phase finds amiss on a block: the clock, stamps and averages of the component, and ranges at the block's cells.
abbrev pub faults_on : Frame → Comp → Phase → Turn → (ℕ → Bool) → CompWorld → List FieldWorld → List Fault
faults_on frame comp phase turn connected world after =
    first_faults comp phase turn connected world
    ++ average_faults world.fields phase
    ++ flat_map (cell_faults after phase.ranges) (cells_of_part frame.grid frame.part)
